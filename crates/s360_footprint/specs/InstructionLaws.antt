-- The laws of an instruction as a row (ours).
use Rattle.std.specs.Prelude.{◌≡◌}
use Rattle.s360_logic.specs.Instruction.{instruction}
use Rattle.s360_store.specs.declared.place.Place.{Place}
use Rattle.s360_machine.specs.Machine.{Machine}
use Rattle.s360_footprint.specs.Altering.{happened}
use Rattle.s360_footprint.specs.FormRows.{form_rows}
use Rattle.s360_footprint.specs.InstructionRows.{InstructionEnd, instruction_row, with_instruction}
use Rattle.s360_footprint.specs.OperandReadings.{profile_of}
use Rattle.s360_footprint.specs.Readings.{HaveAllSame, run}
use Rattle.s360_footprint.specs.Rows.{Row, deciders, sources}
use Rattle.s360_footprint.specs.Values.{AreAlike, value_there}

-- the row of the instruction at the instruction address, in a machine of this one's size and profile
abbrev pub row_in : Machine → Row InstructionEnd
row_in m = instruction_row form_rows (profile_of m.core)

-- it does what the instruction does
abbrev pub InstructionsAreRows : Type 0
InstructionsAreRows = (m : Machine) → happened (row_in m) m ≡ with_instruction m (instruction m.core)

-- the machine after the instruction, before any interruption that follows
abbrev pub after_instruction : Machine → Machine
after_instruction m = record m { core = (instruction m.core).outcome.core }

-- where two machines of one size and profile have the same at the deciders of the instruction, it does the same in both, and ends alike
abbrev pub InstructionDecided : Type 0
InstructionDecided =
    (m n : Machine) → AreAlike m n → HaveAllSame m n (deciders (row_in m) m) → run (row_in m) m ≡ run (row_in n) n

-- and where it does, and they have the same at the sources of a place, they have the same there after it
abbrev pub InstructionFollows : Type 0
InstructionFollows =
    (m n : Machine) (p : Place) → AreAlike m n → run (row_in m) m ≡ run (row_in n) n → HaveAllSame m n (sources (row_in m) m p)
    → value_there (after_instruction m) p ≡ value_there (after_instruction n) p
