-- Registers that are stored at successive words, or loaded from them (ours).
use Rattle.std.specs.Prelude.{ℕ, ◌*◌, [], ◌∷◌, List}
use Rattle.s360_store.specs.declared.place.Place.{Place}
use Rattle.s360_store.specs.declared.place.Place.TheVariants.{Register}
use Rattle.s360_store.specs.declared.protection.Access.{Access}
use Rattle.s360_store.specs.Spans.{byte_places}
use Rattle.s360_fixed.specs.{declared.ended.Ended.Ended, ProgramCodes.program_code}
use Rattle.s360_footprint.specs.Altering.{completed_row, unless_refused}
use Rattle.s360_footprint.specs.OperandReadings.{Profile, conditions_read}
use Rattle.s360_footprint.specs.Readings.{bind}
use Rattle.s360_footprint.specs.Rows.{Row, Store}
use Rattle.s360_footprint.specs.StoringRows.{loaded_registers, stored_registers}
use Rattle.s360_source.specs.declared.question.Question.{Question}
use Rattle.s360_source.specs.Walks.{with_bytes, with_store}

abbrev pub moved_registers : Access → ℕ → ℕ → ℕ → List Store
moved_registers Access.Store r1 address count = stored_registers r1 address count
moved_registers Access.Fetch r1 address count = loaded_registers r1 address count

-- so many registers, from R1 on
abbrev pub several_row : Profile → ℕ → ℕ → ℕ → Access → ℕ → Row Ended
several_row p r1 count address kind next =
    bind (conditions_read p address 4 (4 * count) kind) (λ c.
    unless_refused (program_code c) (completed_row (moved_registers kind r1 address count) next))

-- one of them
abbrev pub moved_walk : Question → Access → ℕ → ℕ → List Place → List Place
moved_walk question Access.Store r address found = with_bytes question address 4 (Register r ∷ []) found
moved_walk question Access.Fetch r address found = with_store question (Register r) (byte_places address 4) found
