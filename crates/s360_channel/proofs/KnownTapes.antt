-- Input/output instructions of one tape while the other executes a program, worked by hand.
use Rattle.std.specs.Prelude.{◌≡◌, ℕ, refl}
use Rattle.s360_model.specs.Storage.{Storage}
use Rattle.s360_word.specs.declared.unit.Unit.{Unit}
use Rattle.s360_channel.specs.declared.configured_unit.ConfiguredUnit.TheVariants.{Tape0}
use Rattle.s360_channel.specs.declared.program.Program.{Program}
use Rattle.s360_channel.specs.declared.unit_state.UnitState.{UnitState}
use Rattle.s360_channel.specs.declared.unit_state.UnitState.TheVariants.{Active, Waiting}
use Rattle.s360_channel.specs.ConfiguredUnits.{Units, idle_units, with_control_of}
use Rattle.s360_channel.specs.IoInstructions.{with_code, csw_of_halted, halt_io, not_operational, start_io, test_channel, test_io, units_after_io}
use Rattle.s360_channel.specs.Units.{idle_unit}

-- the units of which 180 stands so
abbrev with_first : UnitState → Units
with_first state = with_control_of idle_units Tape0 (record idle_unit { state = state })

abbrev unit : ℕ → Unit
unit address = record { 0 = address }

start_beside : (s : Storage) (p : Program) → start_io s (with_first (Active p)) (unit 0x181) ≡ with_code 2
start_beside s p = refl

test_beside : (p : Program) → test_io (with_first (Active p)) (unit 0x181) ≡ with_code 2
test_beside p = refl

channel_is_occupied : (p : Program) → test_channel (with_first (Active p)) 1 ≡ with_code 2
channel_is_occupied p = refl

-- HALT I/O of 181 ends the program of 180
halt_beside : (p : Program) → (halt_io (with_first (Active p)) (unit 0x181)).condition ≡ 2
halt_beside p = refl

after_halt_beside : (p : Program)
    → units_after_io (with_first (Active p)) (halt_io (with_first (Active p)) (unit 0x181)).unit ≡ with_first (Waiting (csw_of_halted p))
after_halt_beside p = refl

-- then a status word waits
channel_has_status : (p : Program) → test_channel (with_first (Waiting (csw_of_halted p))) 1 ≡ with_code 1
channel_has_status p = refl

halt_of_waiting : (p : Program) → halt_io (with_first (Waiting (csw_of_halted p))) (unit 0x180) ≡ with_code 0
halt_of_waiting p = refl

-- a tape has nothing to do with channel 0, and there is no third tape
test_of_reader : (p : Program) → test_io (with_first (Active p)) (unit 0x00C) ≡ with_code 0
test_of_reader p = refl

test_of_none : (p : Program) → test_io (with_first (Active p)) (unit 0x182) ≡ not_operational
test_of_none p = refl
