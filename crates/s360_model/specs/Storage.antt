-- Main storage (GA22-6821, "System Structure"): bytes at addresses from 0, numbers high byte first, and for
-- each block of 2,048 bytes a 4-bit storage key and a fetch bit. Fetches are protected or not by an option of
-- the start (own profile); without it each fetch bit is zero.
use Rattle.std.specs.Prelude.{ℕ, zero, suc, ◌+◌, ◌*◌, ◌/◌, ◌%◌, ◌^◌, Bool, ◌&&◌, nat_eq, nat_le, if◌then◌else◌}
use Rattle.std.specs.Prelude.{List, length, take, drop, ◌++◌, map, replicate, slice_index}
use Rattle.std.specs.List.{range_with_len}

pub record Storage : Type 0 where
  pub bytes : List ℕ
  -- of each block its storage key, and 16 more where its fetch bit is one
  pub keys : List ℕ
  -- the option: fetches are protected
  pub fetch_protection : Bool

-- bytes in a block
abbrev pub block_size : ℕ
block_size = 2048

-- a storage key is below this number: four bits
abbrev pub key_size : ℕ
key_size = 16

-- a block's number for its key and fetch bit is below this one, by whether fetches are protected
abbrev pub key_limit : Bool → ℕ
key_limit fetch_protection = if fetch_protection then 2 * key_size else key_size

-- the storage key in such a number, and the fetch bit
abbrev pub key_of_block : ℕ → ℕ
key_of_block k = k % key_size

abbrev pub fetch_bit_of_block : ℕ → Bool
fetch_bit_of_block k = nat_le key_size k

-- the number of a key and a fetch bit
abbrev pub with_fetch_bit : ℕ → Bool → ℕ
with_fetch_bit key bit = if bit then key + key_size else key

-- the sizes that a storage may have: whole blocks, from 8,192 to 1,048,576 bytes (own profile)
abbrev pub is_storage_size : ℕ → Bool
is_storage_size size = nat_le 8192 size && (nat_le size 1048576 && nat_eq (size % block_size) 0)

-- a storage of this size with every byte, key and fetch bit zero
abbrev pub zero_storage : Bool → ℕ → Storage
zero_storage fetch_protection size = record {
  bytes = replicate size 0;
  keys = replicate (size / block_size) 0;
  fetch_protection = fetch_protection;
}

-- the number in so many successive bytes, the high byte first
abbrev pub number_at : List ℕ → ℕ → ℕ → ℕ
number_at bytes address zero = 0
number_at bytes address (suc n) = slice_index bytes address * 256 ^ n + number_at bytes (suc address) n

abbrev pub halfword_at : List ℕ → ℕ → ℕ
halfword_at bytes address = number_at bytes address 2

abbrev pub word_at : List ℕ → ℕ → ℕ
word_at bytes address = number_at bytes address 4

abbrev pub doubleword_at : List ℕ → ℕ → ℕ
doubleword_at bytes address = number_at bytes address 8

-- an operand is inside where it ends within the storage
abbrev pub is_inside : Storage → ℕ → ℕ → Bool
is_inside s address count = nat_le (address + count) (length s.bytes)

-- the number of the key and fetch bit of each byte of an operand: that of its block
abbrev pub keys_of_operand : Storage → ℕ → ℕ → List ℕ
keys_of_operand s address count = map (λ a. slice_index s.keys (a / block_size)) (range_with_len address count)

-- the bytes with these in place of as many from an address on
abbrev pub with_run : List ℕ → ℕ → List ℕ → List ℕ
with_run bytes address run = take address bytes ++ run ++ drop (address + length run) bytes
