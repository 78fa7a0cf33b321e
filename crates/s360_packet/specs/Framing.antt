-- A packet as it is sent (gdb manual, "Remote Serial Protocol", "Overview"): `$`, the data with some of its
-- bytes escaped, `#`, and the sum modulo 256 of all bytes between, in two hexadecimal digits.
use Rattle.std.specs.Prelude.{ℕ, ◌/◌, ◌%◌, nat_eq, ◌||◌, Bool, if◌then◌else◌, List, [], ◌∷◌, ◌++◌, bit_xor, sum, flat_map}
use Rattle.std.specs.Char.{digit_char}

-- a number below 256 in two hexadecimal digits, in lower case
abbrev pub two_digits : ℕ → List ℕ
two_digits n = digit_char (n / 16) ∷ digit_char (n % 16) ∷ []

-- `#`, `$`, `*` and `}` don't stand for themselves in data
abbrev pub is_special : ℕ → Bool
is_special byte = nat_eq byte 0x23 || nat_eq byte 0x24 || nat_eq byte 0x2A || nat_eq byte 0x7D

-- a byte of data as it is sent: a special one as `}` and the byte with its bit 20 turned
abbrev pub escaped_byte : ℕ → List ℕ
escaped_byte byte = if is_special byte then 0x7D ∷ bit_xor byte 0x20 ∷ [] else byte ∷ []

abbrev pub escaped : List ℕ → List ℕ
escaped bytes = flat_map escaped_byte bytes

-- the packet of some data
abbrev pub framed : List ℕ → List ℕ
framed bytes = 0x24 ∷ (escaped bytes ++ 0x23 ∷ two_digits (sum (escaped bytes) % 256))
