-- An input/output instruction as a row, by the address that it names (GA22-6821, "Input/Output Operations", START I/O, TEST I/O, HALT I/O and TEST CHANNEL).
use Rattle.std.specs.Prelude.{ℕ, ◌/◌, ◌||◌, Bool, true, nat_eq, if◌then◌else◌, Option, None, Some, is_some, List, [], ◌∷◌, ◌++◌}
use Rattle.std.specs.Int.{bytes_high_first}
use Rattle.s360_model.specs.Psw.{with_condition_code, with_instruction_address}
use Rattle.s360_word.specs.declared.unit.Unit.{Unit as UnitAddress}
use Rattle.s360_store.specs.declared.place.Place.{Place}
use Rattle.s360_store.specs.declared.place.Place.TheVariants.{Psw, UnitState as state_of_unit}
use Rattle.s360_store.specs.Spans.{byte_places}
use Rattle.s360_fixed.specs.declared.ended.IoOperation.{IoOperation}
use Rattle.s360_channel.specs.declared.{caw.Caw.Caw, configured_unit.ConfiguredUnit.ConfiguredUnit}
use Rattle.s360_channel.specs.declared.configured_unit.ConfiguredUnit.TheVariants.{Tape0, Tape1}
use Rattle.s360_channel.specs.declared.io_instructions.{CswStore.CswStore, IoResult.IoResult, UnitAfter.UnitAfter}
use Rattle.s360_channel.specs.declared.{unit_control.UnitControl.UnitControl, unit_state.UnitState.UnitState}
use Rattle.s360_channel.specs.ConfiguredUnits.{unit_at}
use Rattle.s360_channel.specs.Differences.{state_place}
use Rattle.s360_channel.specs.IoInstructions.{becomes, caw_location, csw_location, halt_unit, not_operational, started, test_unit, with_code, with_status}
use Rattle.s360_channel.specs.{Programs.program_at, Units.idle_unit, Units.is_active, Units.is_waiting}
use Rattle.s360_channel.specs.Words.{asks_attention, caw_of, csw_doubleword, is_whole_caw, meets_program_check, no_channel_status, no_unit_status}
use Rattle.s360_channel.specs.Words.{status_halfword}
use Rattle.s360_machine.specs.InputOutput.{status_location}
use Rattle.s360_footprint.specs.ChannelReadings.{next_ccw_read}
use Rattle.s360_footprint.specs.ChannelRows.{control_read, state_store}
use Rattle.s360_footprint.specs.InstructionRows.{InstructionEnd}
use Rattle.s360_footprint.specs.OperandReadings.{Profile, number_read}
use Rattle.s360_footprint.specs.Readings.{Reading, bind, done, made_of, read}
use Rattle.s360_footprint.specs.Rows.{Row, Store}
use Rattle.s360_footprint.specs.StoringRows.{byte_stores}

-- the other tape, where a unit is a tape and the other is active
abbrev pub if_active : ConfiguredUnit → UnitControl → Option ConfiguredUnit
if_active u control = if is_active control.state then Some u else None

abbrev pub beside_read : ConfiguredUnit → Reading (Option ConfiguredUnit)
beside_read Tape0 = bind (control_read Tape1) (λ c. done (if_active Tape1 c))
beside_read Tape1 = bind (control_read Tape0) (λ c. done (if_active Tape0 c))
beside_read u = done None

-- START I/O of a unit that is available, by the channel address word; and of a unit, where another program of its channel may be executed
abbrev pub start_with_read : Profile → ConfiguredUnit → Caw → Reading IoResult
start_with_read p u caw =
    if is_whole_caw caw then bind (next_ccw_read p (program_at caw.key caw.address)) (λ f. done (started u (program_at caw.key caw.address) f))
    else done (with_status no_unit_status meets_program_check None)

abbrev pub start_read : Profile → Bool → ConfiguredUnit → UnitControl → Reading IoResult
start_read p occupied u control =
    if is_active control.state || (is_waiting control.state || occupied) then done (with_code 2)
    else if control.attention then done (with_status (record asks_attention { busy = true }) no_channel_status (becomes u idle_unit))
    else bind (number_read caw_location 4) (λ word. start_with_read p u (caw_of word))

-- HALT I/O, where the unit does not execute a program: the other tape may
abbrev pub halt_beside : ConfiguredUnit → UnitControl → Option ConfiguredUnit → Reading IoResult
halt_beside u control None = done (halt_unit u control)
halt_beside u control (Some other) = bind (control_read other) (λ c. done (halt_unit other c))

abbrev pub halt_read : ConfiguredUnit → UnitControl → Option ConfiguredUnit → Reading IoResult
halt_read u control other = if is_active control.state then done (halt_unit u control) else halt_beside u control other

-- an instruction of a unit, by how it stands and whether the other tape is active, which are both looked at
abbrev pub of_unit : (ConfiguredUnit → UnitControl → Option ConfiguredUnit → Reading IoResult) → Option ConfiguredUnit → Reading IoResult
of_unit result None = done not_operational
of_unit result (Some u) = bind (control_read u) (λ c. bind (beside_read u) (λ other. result u c other))

-- TEST CHANNEL
abbrev pub code_of_tapes : UnitState → UnitState → ℕ
code_of_tapes s t = if is_active s || is_active t then 2 else (if is_waiting s || is_waiting t then 1 else 0)

abbrev pub test_tapes_read : Reading IoResult
test_tapes_read = bind (control_read Tape0) (λ a. bind (control_read Tape1) (λ b. done (with_code (code_of_tapes a.state b.state))))

abbrev pub test_channel_read : ℕ → Reading IoResult
test_channel_read channel =
    if nat_eq channel 0 then done (with_code 0) else (if nat_eq channel 1 then test_tapes_read else done not_operational)

-- what the channels make of an instruction
abbrev pub io_result_read : Profile → IoOperation → UnitAddress → Reading IoResult
io_result_read p IoOperation.Start unit = of_unit (λ u c other. start_read p (is_some other) u c) (unit_at unit.0)
io_result_read p IoOperation.Test unit = of_unit (λ u c other. done (test_unit (is_some other) u c)) (unit_at unit.0)
io_result_read p IoOperation.Halt unit = of_unit halt_read (unit_at unit.0)
io_result_read p IoOperation.TestChannel unit = test_channel_read (unit.0 / 0x100)

-- what is stored of the channel status word is made of how the unit stands, and of the channel address word
abbrev pub unit_and_address_word : UnitAddress → List Place
unit_and_address_word unit = state_of_unit unit ∷ byte_places caw_location 4

abbrev pub csw_stores : CswStore → List Place → List Store
csw_stores CswStore.Nothing places = []
csw_stores (CswStore.Status unit channel) places = byte_stores status_location (made_of places (bytes_high_first 2 (status_halfword unit channel))) 0 2
csw_stores (CswStore.Csw csw) places = byte_stores csw_location (made_of places (bytes_high_first 8 (csw_doubleword csw))) 0 8

-- a unit that stands otherwise then is made of how it stood
abbrev pub unit_stores : Option UnitAfter → List Store
unit_stores None = []
unit_stores (Some x) = state_store x.unit (made_of (state_place x.unit ∷ []) x.control)

-- the PSW gets the address of the next instruction and the condition code
abbrev pub coded_psw : ℕ → ℕ → Reading ℕ
coded_psw next condition = read Psw (λ psw. done (with_condition_code (with_instruction_address psw next) condition))

abbrev pub io_stores : UnitAddress → ℕ → IoResult → List Store
io_stores unit next r =
    csw_stores r.stores (unit_and_address_word unit) ++ (record { place = Psw; value = coded_psw next r.condition } ∷ unit_stores r.unit)

abbrev pub io_row : Profile → IoOperation → UnitAddress → InstructionEnd → Row InstructionEnd
io_row p operation unit e =
    bind (io_result_read p operation unit) (λ r. done (record { ended = e; stores = io_stores unit e.next_address r }))
