-- What some rows read for a place, worked by hand from the standard.
use Rattle.std.proofs.Common.{ℕ, ◌≡◌, ◌++◌, List, [], ◌∷◌, refl}
use Rattle.s360_psw.specs.declared.class.Class.{Class}
use Rattle.s360_psw.specs.declared.instruction_length.InstructionLength.{InstructionLength}
use Rattle.s360_store.specs.declared.place.Place.{Place}
use Rattle.s360_store.specs.declared.place.Place.TheVariants.{Psw, Register, Byte, Key}
use Rattle.s360_fixed.specs.declared.row.Combination.{Combination}
use Rattle.s360_logic.specs.declared.{field.Field.Field, row.DigitRow.DigitRow, row.ByteCombination.TheVariants.Second}
use Rattle.s360_logic.specs.declared.{row.ByteCombination.TheVariants.BitwiseExclusiveOr}
use Rattle.s360_machine.specs.Machine.{Machine}
use Rattle.s360_footprint.specs.Altering.{Altering, psw_store, register_stores}
use Rattle.s360_footprint.specs.DigitRows.{digit_stores}
use Rattle.s360_footprint.specs.InterruptionRows.{interruption_stores, old_psw_read}
use Rattle.s360_footprint.specs.LeftToRightRows.{combining, made_stores, result_code_read}
use Rattle.s360_footprint.specs.OperandReadings.{operand_keys_read}
use Rattle.s360_footprint.specs.Readings.{places_read, value_read}
use Rattle.s360_footprint.specs.RegisterRows.{combination_altering}
use Rattle.s360_footprint.specs.Rows.{Store, value_after}
use Rattle.s360_footprint.specs.Sequences.{stores_through}
use Rattle.s360_footprint.specs.StoringRows.{stored_registers}

-- the places that the value of a place is made of by stores
read_for : List Store → Machine → Place → List Place
read_for ss m p = places_read (value_after ss p) m

altered : Altering → List Store
altered a = register_stores a.registers ++ psw_store a.code a.address

-- 1A12: the sum is made of both registers, and so is the condition code; another register is left alone
sum : List Store
sum = altered (combination_altering Combination.Sum 1 (value_read (Register 2)) 0x202)

sum-of-register : (m : Machine) → read_for sum m (Register 1) ≡ Register 1 ∷ (Register 2 ∷ [])
unfolding read_for sum altered
sum-of-register m = refl

sum-of-psw : (m : Machine) → read_for sum m Psw ≡ Psw ∷ (Register 1 ∷ (Register 2 ∷ []))
unfolding read_for sum altered
sum-of-psw m = refl

sum-of-another : (m : Machine) → read_for sum m (Register 3) ≡ Register 3 ∷ []
unfolding read_for sum altered
sum-of-another m = refl

-- 1812: the condition code stays
loaded-psw : (m : Machine) → read_for (altered (combination_altering Combination.Second 1 (value_read (Register 2)) 0x202)) m Psw ≡ Psw ∷ []
unfolding read_for altered
loaded-psw m = refl

-- D203 0301 0300: one byte goes through four
moved-through : (m : Machine) → read_for (made_stores (combining Second 0x301 0x300) 0x301 4) m (Byte 0x304) ≡ Byte 0x300 ∷ []
unfolding read_for
moved-through m = refl

-- D701 0300 0300: what is cleared was made of itself, and so was the condition code
cleared : (m : Machine)
    → places_read (result_code_read BitwiseExclusiveOr (combining BitwiseExclusiveOr 0x300 0x300) 0x300 2) m
    ≡ Byte 0x300 ∷ (Byte 0x300 ∷ (Byte 0x301 ∷ (Byte 0x301 ∷ [])))
cleared m = refl

-- F311 0300 0300: two bytes are unpacked where they stand. The left one is a zone and the low digit of the left byte as it was
unpacked-left : (m : Machine)
    → read_for (digit_stores
    (record { row = DigitRow.Unpack; first = record { address = 0x300; count = 2 }; second = record { address = 0x300; count = 2 } }) 2) m (Byte 0x300)
    ≡ Psw ∷ (Byte 0x300 ∷ [])
unfolding read_for
unpacked-left m = refl

-- 90F0 0300: register 0 follows register 15
stored-after-fifteen : (m : Machine) → read_for (stored_registers 15 0x300 2) m (Byte 0x304) ≡ Register 0 ∷ []
unfolding read_for
stored-after-fifteen m = refl

-- 4 bytes from 2046 on lie in two blocks, and each key is read once
keys-of-two-blocks : (m : Machine) → places_read (operand_keys_read 2046 4) m ≡ Key 0 ∷ (Key 1 ∷ [])
keys-of-two-blocks m = refl

-- a program interruption after 1A12: the old PSW at 40 has the condition code that the sum made
interrupted-sum : (m : Machine)
    → read_for (sum ++ stores_through sum (interruption_stores Class.Program (old_psw_read 0x202 8 InstructionLength.OneHalfword))) m (Byte 40)
    ≡ Psw ∷ (Register 1 ∷ (Register 2 ∷ []))
unfolding read_for sum altered
interrupted-sum m = refl
