-- MOVE WITH OFFSET, PACK and UNPACK: two operands in storage, each with its length. The bytes of the result are made and stored one after another, from right
-- to left, and bytes are counted from 0 at the right. A byte of the second operand is fetched once, just before the first byte of the result that needs it is
-- stored; past its end digits are zero; what does not fit is dropped (GA22-6821, "Decimal Arithmetic"; the order is own profile).
use Rattle.std.specs.Prelude.{ℕ, zero, suc, ◌+◌, ◌-◌, ◌*◌, ◌/◌, ◌%◌, nat_eq, nat_lt, if◌then◌else◌, None, ◌≡◌, ◌<◌, ◌≤◌, ◌⊎◌, length}
use Rattle.s360_model.specs.{Psw.ascii_mode_of, Storage.Storage}
use Rattle.s360_store.specs.declared.protection.Access.TheVariants.{Store}
use Rattle.s360_fixed.specs.{Outcomes.unless_met, View.Outcome, View.View}
use Rattle.s360_logic.specs.declared.{field.Field.Field, row.DigitRow.DigitRow}
use Rattle.s360_logic.specs.Bytes.{byte_at, completed_with, fields_conditions, with_byte}

-- the address of the byte of an operand at i, and that byte, which is zero past the end
abbrev pub address_from_right : Field → ℕ → ℕ
address_from_right field i = field.address + field.count - 1 - i

abbrev pub byte_from_right : Field → Storage → ℕ → ℕ
byte_from_right field s i = if nat_lt i field.count then byte_at s (address_from_right field i) else 0

-- two digits as a byte, and a byte with its digits exchanged
abbrev pub digits : ℕ → ℕ → ℕ
digits high low = high % 16 * 16 + low % 16

abbrev pub exchanged : ℕ → ℕ
exchanged byte = digits byte (byte / 16)

-- an instruction on digits: its row, the zone of an unpacked digit, and its operands
pub record DigitMove : Type 0 where
  pub row : DigitRow
  pub zone : ℕ
  pub first : Field
  pub second : Field

-- the byte of the result at i, of the bytes of the second operand and of the rightmost byte of the first. Move with offset: the low digit of one byte, and on
-- its right the high digit of the byte before, at first the low digit of the first operand. Pack: the low digits of two bytes. Unpack: a zone, and the low and
-- then the high digit of a byte. The rightmost byte of pack and unpack is the second operand's with its digits exchanged
abbrev pub result_byte : DigitRow → ℕ → ℕ → (ℕ → ℕ) → ℕ → ℕ
result_byte DigitRow.MoveWithOffset zone rightmost source i = digits (source i) (if nat_eq i 0 then rightmost else source (i - 1) / 16)
result_byte DigitRow.Pack zone rightmost source i = if nat_eq i 0 then exchanged (source 0) else digits (source (2 * i)) (source (2 * i - 1))
result_byte DigitRow.Unpack zone rightmost source i =
    if nat_eq i 0
    then exchanged (source 0)
    else digits zone (if nat_eq (i % 2) 1 then source ((i + 1) / 2) else source (i / 2) / 16)

-- which byte of the result is the first that needs the byte of the second operand at j
abbrev pub first_user : DigitRow → ℕ → ℕ
first_user DigitRow.MoveWithOffset j = j
first_user DigitRow.Pack j = (j + 1) / 2
first_user DigitRow.Unpack j = 2 * j - 1

-- by what storage is before each byte of the result is made: a byte of the second operand as it stands just before the first byte of the result that needs it;
-- the byte of the result at i; and storage after that is stored
abbrev pub source_byte : DigitMove → (ℕ → Storage) → ℕ → ℕ
source_byte d before j = byte_from_right d.second (before (first_user d.row j)) j

abbrev pub made_byte : DigitMove → (ℕ → Storage) → ℕ → ℕ
made_byte d before i = result_byte d.row d.zone (byte_from_right d.first (before 0) 0) (source_byte d before) i

abbrev pub storage_after : DigitMove → (ℕ → Storage) → ℕ → Storage
storage_after d before i = with_byte (address_from_right d.first i) (made_byte d before i) (before i)

-- storage before the byte of the result at i is made, where n bytes are made in all
abbrev pub storage_before : DigitMove → Storage → ℕ → ℕ → Storage
storage_before d s zero i = s
storage_before d s (suc n) i = if nat_lt n i then storage_after d (storage_before d s n) n else storage_before d s n i

-- storage after the whole result
abbrev pub digits_stored : DigitMove → Storage → Storage
digits_stored d s = storage_before d s d.first.count d.first.count

-- the zone of an unpacked digit: F, or 5 in ASCII mode
abbrev pub zone_of : ℕ → ℕ
zone_of psw = if ascii_mode_of psw then 5 else 15

abbrev pub digits_outcome : DigitRow → View → Field → Field → Outcome
digits_outcome row v first second =
    unless_met (fields_conditions v Store first second) v.core
    (completed_with v None (digits_stored (record { row = row; zone = zone_of v.core.psw; first = first; second = second }) v.core.storage))

-- the operands share no byte
abbrev pub ShareNoByte : Field → Field → Type 0
ShareNoByte first second = (first.address + first.count ≤ second.address) ⊎ (second.address + second.count ≤ first.address)

-- each byte of the first operand is the one that the bytes of the second make as they stood before, and nothing else of storage is altered
pub record MakesEachByte (d : DigitMove) (before after : Storage) : Type 0 where
  pub made : (i : ℕ) → i < d.first.count → byte_at after (address_from_right d.first i) ≡ made_byte d (λ k. before) i
  pub others : (a : ℕ) → (a < d.first.address) ⊎ (d.first.address + d.first.count ≤ a) → byte_at after a ≡ byte_at before a
  pub keys : after.keys ≡ before.keys
  pub fetch_protection : after.fetch_protection ≡ before.fetch_protection
  pub size : length after.bytes ≡ length before.bytes

abbrev pub DigitsOfApartOperands : Type 0
DigitsOfApartOperands =
    (d : DigitMove) (s : Storage) → ShareNoByte d.first d.second → d.first.address + d.first.count ≤ length s.bytes
    → MakesEachByte d s (digits_stored d s)
