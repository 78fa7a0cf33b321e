-- The laws of an instruction follow from the laws of rows.
use Rattle.std.proofs.Common.{◌≡◌, ◌∙◌, refl, sym, ap}
use Rattle.s360_machine.specs.Machine.{Machine}
use Rattle.s360_footprint.specs.Altering.{Happened}
use Rattle.s360_footprint.specs.FormRows.{form_rows}
use Rattle.s360_footprint.specs.InstructionLaws.{InstructionDecided, InstructionFollows, InstructionsAreRows, after_instruction, row_in}
use Rattle.s360_footprint.specs.InstructionRows.{InstructionEnd, instruction_row}
use Rattle.s360_footprint.specs.OperandReadings.{Profile, profile_of}
use Rattle.s360_footprint.specs.Readings.{run}
use Rattle.s360_footprint.specs.Rows.{after}
use Rattle.s360_footprint.specs.Values.{AreAlike, value_there}
use Rattle.s360_footprint.proofs.FormRowLemmas.{forms-are}
use Rattle.s360_footprint.proofs.InstructionRowLemmas.{instruction-is}
use Rattle.s360_footprint.proofs.ReadingLemmas as readings
use Rattle.s360_footprint.proofs.RowLemmas.{follows}

pub instructions-are-rows : InstructionsAreRows
instructions-are-rows m = instruction-is form_rows m (forms-are m)

pub same-profile : (m n : Machine) → AreAlike m n → profile_of m.core ≡ profile_of n.core
same-profile m n a = rw (a.bytes, a.keys, a.option) refl

same-row : (m n : Machine) → AreAlike m n → row_in m ≡ row_in n
same-row m n a = ap (λ (p : Profile). instruction_row form_rows p) (same-profile m n a)

pub instruction-decided : InstructionDecided
instruction-decided m n a h = (readings.decided (row_in m) m n h).0 ∙ ap (λ row. run row n) (same-row m n a)

after-is : (m : Machine) → after (row_in m) m ≡ after_instruction m
after-is m = ap (λ (h : Happened InstructionEnd). h.machine) (instructions-are-rows m)

pub instruction-follows : InstructionFollows
instruction-follows m n p a e h =
    ap (λ x. value_there x p) (sym (after-is m))
    ∙ follows InstructionEnd (row_in m) m n p a (e ∙ ap (λ row. run row n) (sym (same-row m n a))) h
    ∙ ap (λ row. value_there (after row n) p) (same-row m n a)
    ∙ ap (λ x. value_there x p) (after-is n)
