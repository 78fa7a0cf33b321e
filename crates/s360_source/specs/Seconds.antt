-- A second operand as a reading, and what it is made of (ours).
use Rattle.std.specs.Prelude.{ℕ, ◌≡◌, ◌||◌, Bool, false, Option}
use Rattle.s360_model.specs.Core.{Core}
use Rattle.s360_store.specs.declared.place.Place.TheVariants.{Register}
use Rattle.s360_store.specs.Plans.{HasBytes}
use Rattle.s360_fixed.specs.Operands.{bytes_of_width}
use Rattle.s360_fixed.specs.declared.{ended.Ended.Ended, program_code.ProgramCode.ProgramCode, row.PairCombination.PairCombination}
use Rattle.s360_fixed.specs.declared.second_operand.Width.{Width}
use Rattle.s360_fixed.specs.ProgramCodes.{Conditions, program_code}
use Rattle.s360_fixed.specs.declared.second_operand.SecondOperand.{SecondOperand}
use Rattle.s360_footprint.specs.Altering.{altering_row}
use Rattle.s360_footprint.specs.OperandReadings.{OperandReading, Profile, address_read, register_operand, second_operand_read}
use Rattle.s360_footprint.specs.Readings.{Reading, done}
use Rattle.s360_footprint.specs.RegisterRows.{pair_altering, pair_made, pair_read}
use Rattle.s360_footprint.specs.Rows.{Row}
use Rattle.s360_source.specs.declared.part.Part.{Part}
use Rattle.s360_source.specs.declared.second.Second.{Second}

abbrev pub second_reading : Profile → Second → OperandReading
second_reading p (Second.Register r) = register_operand r
second_reading p (Second.Storage width address) = second_operand_read p (SecondOperand.InStorage width) (done 0) address
second_reading p (Second.Address index base displacement) = second_operand_read p SecondOperand.Address (address_read index base displacement) 0

abbrev pub part_of : Second → Part
part_of (Second.Register r) = Part.Place (Register r)
part_of (Second.Storage width address) = Part.Bytes address (bytes_of_width width)
part_of (Second.Address index base displacement) = Part.Address index base

-- it is a word; and it is inside storage, if it is there
abbrev pub IsOfWord : Second → Type 0
IsOfWord (Second.Register r) = Unit {0}
IsOfWord (Second.Storage width address) = width ≡ Width.Word
IsOfWord (Second.Address index base displacement) = ⊥

abbrev pub IsInside : Core → Second → Type 0
IsInside m (Second.Storage width address) = HasBytes address (bytes_of_width width) m
IsInside m other = Unit {0}

-- the pair and a second operand: what keeps them from being used, and what is made of them
abbrev pub pair_met : Bool → Conditions → Option ProgramCode
pair_met odd c = program_code (record c { specification = odd || c.specification; divide = false })

abbrev pub pair_done : PairCombination → ℕ → Reading ℕ → ℕ → Row Ended
pair_done pair r1 second next = pair_made pair (pair_read pair r1 second) (altering_row (pair_altering (pair_read pair r1 second) r1 next))
