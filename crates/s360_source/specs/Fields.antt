-- Operands in storage as records of the footprint, and what bytes of digits are made of (ours).
use Rattle.std.specs.Prelude.{ℕ, ◌+◌, ◌-◌, ◌*◌, ◌/◌, ◌%◌, nat_eq, if◌then◌else◌, List, [], ◌∷◌, ◌++◌}
use Rattle.s360_store.specs.declared.place.Place.{Place}
use Rattle.s360_store.specs.declared.place.Place.TheVariants.{Psw, Byte}
use Rattle.s360_logic.specs.declared.{field.Field.Field, row.DigitRow.DigitRow}
use Rattle.s360_logic.specs.{LeftToRight.field_at, RightToLeft.address_from_right}
use Rattle.s360_machine.specs.Machine.{Machine}
use Rattle.s360_footprint.specs.DigitRows.{DigitOperands, byte_before, source_read}
use Rattle.s360_footprint.specs.Readings.{places_read}
use Rattle.s360_source.specs.declared.{digits.Digits.Digits, fields.Operand.Operand}

abbrev pub field_of : Operand → Field
field_of o = field_at o.address o.count

abbrev pub operands_of : Digits → DigitOperands
operands_of d = record { row = d.row; first = field_of d.first; second = field_of d.second }

-- a byte of the result, by what the bytes of the second operand are made of, and the rightmost byte of the first
abbrev pub digit_places_by : DigitRow → ℕ → List Place → (ℕ → List Place) → List Place
digit_places_by DigitRow.MoveWithOffset i rightmost source = source i ++ (if nat_eq i 0 then rightmost else source (i - 1))
digit_places_by DigitRow.Pack i rightmost source = if nat_eq i 0 then source 0 else source (2 * i) ++ source (2 * i - 1)
digit_places_by DigitRow.Unpack i rightmost source =
    if nat_eq i 0 then source 0 else Psw ∷ source (if nat_eq (i % 2) 1 then (i + 1) / 2 else i / 2)

abbrev pub digit_places : Digits → ℕ → Machine → List Place
digit_places d i m =
    digit_places_by d.row i (Byte (address_from_right (field_of d.first) 0) ∷ [])
    (λ j. places_read (source_read (operands_of d) (byte_before (operands_of d) i) j) m)
