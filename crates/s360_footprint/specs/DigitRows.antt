-- MOVE WITH OFFSET, PACK and UNPACK as readings: the bytes of the result are made and stored from right to left, and what was stored is seen by later
-- fetches (GA22-6821, "Decimal Arithmetic").
use Rattle.std.specs.Prelude.{ℕ, zero, suc, ◌+◌, ◌-◌, ◌*◌, ◌/◌, ◌%◌, nat_eq, nat_lt, if◌then◌else◌, List, [], ◌∷◌, ◌++◌}
use Rattle.s360_store.specs.declared.{place.Place.TheVariants.Psw, place.Place.TheVariants.Byte, protection.Access.Access}
use Rattle.s360_fixed.specs.{declared.ended.Ended.Ended, ProgramCodes.program_code}
use Rattle.s360_logic.specs.declared.{field.Field.Field, row.DigitRow.DigitRow}
use Rattle.s360_logic.specs.RightToLeft.{address_from_right, digits, exchanged, first_user, zone_of}
use Rattle.s360_footprint.specs.Altering.{completed_row, unless_refused}
use Rattle.s360_footprint.specs.LeftToRightRows.{fields_read}
use Rattle.s360_footprint.specs.OperandReadings.{Profile}
use Rattle.s360_footprint.specs.Readings.{Reading, bind, done, read, value_read}
use Rattle.s360_footprint.specs.Rows.{Row, Store}

-- an instruction on digits: its row and its operands
pub record DigitOperands : Type 0 where
  pub row : DigitRow
  pub first : Field
  pub second : Field

-- the byte of an operand at i from the right, by the bytes at addresses: past the end it is zero, and nothing is read
abbrev pub from_right_read : Field → (ℕ → Reading ℕ) → ℕ → Reading ℕ
from_right_read field bytes i = if nat_lt i field.count then bytes (address_from_right field i) else done 0

-- a byte of the second operand as it stands before the first byte of the result that needs it, by the bytes before each byte of the result is made
abbrev pub source_read : DigitOperands → (ℕ → ℕ → Reading ℕ) → ℕ → Reading ℕ
source_read d before j = from_right_read d.second (before (first_user d.row j)) j

abbrev pub pair_of_digits : Reading ℕ → Reading ℕ → Reading ℕ
pair_of_digits high low = bind high (λ h. bind low (λ l. done (digits h l)))

abbrev pub exchanged_read : Reading ℕ → Reading ℕ
exchanged_read byte = bind byte (λ b. done (exchanged b))

abbrev pub upper_read : Reading ℕ → Reading ℕ
upper_read byte = bind byte (λ b. done (b / 16))

abbrev pub zoned_read : Reading ℕ → Reading ℕ
zoned_read digit = read Psw (λ psw. bind digit (λ b. done (digits (zone_of psw) b)))

-- the byte of the result at i
abbrev pub digit_read : DigitRow → Reading ℕ → (ℕ → Reading ℕ) → ℕ → Reading ℕ
digit_read DigitRow.MoveWithOffset rightmost source i =
    pair_of_digits (source i) (if nat_eq i 0 then rightmost else upper_read (source (i - 1)))
digit_read DigitRow.Pack rightmost source i =
    if nat_eq i 0 then exchanged_read (source 0) else pair_of_digits (source (2 * i)) (source (2 * i - 1))
digit_read DigitRow.Unpack rightmost source i =
    if nat_eq i 0 then exchanged_read (source 0)
    else zoned_read (if nat_eq (i % 2) 1 then source ((i + 1) / 2) else upper_read (source (i / 2)))

abbrev pub made_digit : DigitOperands → (ℕ → ℕ → Reading ℕ) → ℕ → Reading ℕ
made_digit d before i = digit_read d.row (from_right_read d.first (before 0) 0) (source_read d before) i

-- the byte at an address before the byte of the result at i is made, where n bytes are made in all
abbrev pub byte_before : DigitOperands → ℕ → ℕ → ℕ → Reading ℕ
byte_before d zero i a = value_read (Byte a)
byte_before d (suc n) i a =
    if nat_lt n i then (if nat_eq (address_from_right d.first n) a then made_digit d (byte_before d n) n else byte_before d n n a)
    else byte_before d n i a

-- so many bytes of the result are stored
abbrev pub digit_stores : DigitOperands → ℕ → List Store
digit_stores d zero = []
digit_stores d (suc n) =
    digit_stores d n ++ record { place = Byte (address_from_right d.first n); value = made_digit d (byte_before d n) n } ∷ []

abbrev pub digits_row : Profile → DigitRow → Field → Field → ℕ → Row Ended
digits_row p row first second next =
    bind (fields_read p Access.Store first second) (λ c.
    unless_refused (program_code c) (completed_row (digit_stores (record { row = row; first = first; second = second }) first.count) next))
