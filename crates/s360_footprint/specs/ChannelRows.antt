-- A channel event of a unit as a row, but for the end of loading (GA22-6821, "Input/Output Operations", execution of input/output operations). What happens,
-- and where bytes are stored, does not come from the bytes that an output fetches: the row finds it with zeros for them.
use Rattle.std.specs.Prelude.{ℕ, ◌≡◌, Option, None, Some, is_some, List, [], ◌∷◌, ◌++◌, length, replicate}
use Rattle.s360_store.specs.declared.place.Place.TheVariants.{UnitState as state_of_unit, UnitMedia}
use Rattle.s360_store.specs.declared.protection.Checked.{Checked}
use Rattle.s360_device.specs.Punch.{punch_table}
use Rattle.s360_device.specs.Reader.{reader_table}
use Rattle.s360_print.specs.Console.{console_table}
use Rattle.s360_print.specs.Printer.{printer_table}
use Rattle.s360_tape.specs.Tape.{tape_table}
use Rattle.s360_channel.specs.declared.configured_unit.ConfiguredUnit.{ConfiguredUnit}
use Rattle.s360_channel.specs.declared.configured_unit.ConfiguredUnit.TheVariants.{Reader, Punch, Printer, Console, Tape0, Tape1}
use Rattle.s360_channel.specs.declared.{fetching.Fetched.Fetched, program.Program.Program, unit_control.UnitControl.UnitControl, unit_state.UnitState.UnitState}
use Rattle.s360_channel.specs.ConfiguredUnits.{address_of_unit}
use Rattle.s360_channel.specs.Execution.{DeviceView, Ending, Execution, Run}
use Rattle.s360_channel.specs.Units.{program_of}
use Rattle.s360_machine.specs.ChannelEvents.{after_channel, after_ending, view_of}
use Rattle.s360_machine.specs.Machine.{Machine}
use Rattle.s360_footprint.specs.ChannelReadings.{Fetching, next_ccw_read, word_met, word_read}
use Rattle.s360_footprint.specs.OperandReadings.{Profile, bytes_read, profile_of}
use Rattle.s360_footprint.specs.Readings.{Reading, bind, done, value_read}
use Rattle.s360_footprint.specs.Rows.{Made, Row, Store, after}
use Rattle.s360_footprint.specs.StoringRows.{byte_stores}
use Rattle.s360_footprint.specs.Values.{DeviceOf}

-- how a unit stands, and its device
abbrev pub control_read : ConfiguredUnit → Reading UnitControl
control_read u = value_read (state_of_unit (record { 0 = address_of_unit u }))

abbrev pub device_read : (u : ConfiguredUnit) → Reading (DeviceOf u)
device_read Reader = value_read (UnitMedia (record { 0 = 0x00C }))
device_read Punch = value_read (UnitMedia (record { 0 = 0x00D }))
device_read Printer = value_read (UnitMedia (record { 0 = 0x00E }))
device_read Console = value_read (UnitMedia (record { 0 = 0x01F }))
device_read Tape0 = value_read (UnitMedia (record { 0 = 0x180 }))
device_read Tape1 = value_read (UnitMedia (record { 0 = 0x181 }))

abbrev pub device_store : (u : ConfiguredUnit) → Reading (DeviceOf u) → Store
device_store Reader d = record { place = UnitMedia (record { 0 = 0x00C }); value = d }
device_store Punch d = record { place = UnitMedia (record { 0 = 0x00D }); value = d }
device_store Printer d = record { place = UnitMedia (record { 0 = 0x00E }); value = d }
device_store Console d = record { place = UnitMedia (record { 0 = 0x01F }); value = d }
device_store Tape0 d = record { place = UnitMedia (record { 0 = 0x180 }); value = d }
device_store Tape1 d = record { place = UnitMedia (record { 0 = 0x181 }); value = d }

-- the device as its channel sees it, and after the command that ends, if one does
abbrev pub device_seen : (u : ConfiguredUnit) → DeviceOf u → DeviceView
device_seen Reader d = view_of reader_table d
device_seen Punch d = view_of punch_table d
device_seen Printer d = view_of printer_table d
device_seen Console d = view_of console_table d
device_seen Tape0 d = view_of tape_table d
device_seen Tape1 d = view_of tape_table d

abbrev pub device_ending : (u : ConfiguredUnit) → DeviceOf u → Option Ending → DeviceOf u
device_ending Reader d e = after_ending reader_table d e
device_ending Punch d e = after_ending punch_table d e
device_ending Printer d e = after_ending printer_table d e
device_ending Console d e = after_ending console_table d e
device_ending Tape0 d e = after_ending tape_table d e
device_ending Tape1 d e = after_ending tape_table d e

-- what a unit in a state executes, by the word that is found and what its bytes meet
abbrev pub state_executed : Fetching → DeviceView → Fetched → Checked → UnitState → Reading Execution
state_executed fetch d f met (UnitState.Active program) = word_read fetch d program f met
state_executed fetch d f met other = done (record { stores = None; state = other; ending = None })

abbrev pub unit_executed : Fetching → ConfiguredUnit → Fetched → Checked → Reading Execution
unit_executed fetch u f met =
    bind (control_read u) (λ control. bind (device_read u) (λ d. state_executed fetch (device_seen u d) f met control.state))

-- zeros for the bytes that an output fetches
abbrev pub zeros : Fetching
zeros address count = done (replicate count 0)

-- the stores: bytes of an input, the device after a command that ends, and how the unit stands, which the words are read for again
abbrev pub bytes_of_run : Option Run → List ℕ
bytes_of_run None = []
bytes_of_run (Some r) = r.bytes

abbrev pub run_stores : Reading Execution → Option Run → List Store
run_stores executed None = []
run_stores executed (Some r) = byte_stores r.at (bind executed (λ e. done (bytes_of_run e.stores))) 0 (length r.bytes)

abbrev pub ending_stores : ConfiguredUnit → Reading Execution → Option Ending → List Store
ending_stores u executed None = []
ending_stores u executed (Some ending) =
    device_store u (bind (device_read u) (λ d. bind executed (λ e. done (device_ending u d e.ending)))) ∷ []

abbrev pub word_again : Profile → UnitState → Fetched → Reading Fetched
word_again p (UnitState.Active program) f = next_ccw_read p program
word_again p other f = done f

abbrev pub state_after : Profile → ConfiguredUnit → Fetched → Checked → Reading UnitControl
state_after p u f met =
    bind (control_read u) (λ control.
    bind (word_again p control.state f) (λ again.
    bind (unit_executed bytes_read u again met) (λ e. done (record control { state = e.state }))))

abbrev pub state_store : ConfiguredUnit → Reading UnitControl → List Store
state_store u control = record { place = state_of_unit (record { 0 = address_of_unit u }); value = control } ∷ []

abbrev pub execution_stores : Profile → ConfiguredUnit → Fetched → Checked → Execution → List Store
execution_stores p u f met e =
    let executed : Reading Execution = unit_executed bytes_read u f met
    in run_stores executed e.stores ++ (ending_stores u executed e.ending ++ state_store u (state_after p u f met))

-- how the unit stands then; one that executes no program stores nothing
abbrev pub met_row : Profile → ConfiguredUnit → Fetched → Checked → Row (Option UnitState)
met_row p u f met = bind (unit_executed zeros u f met) (λ e. done (record { ended = Some e.state; stores = execution_stores p u f met e }))

abbrev pub program_row : Profile → ConfiguredUnit → Option Program → Row (Option UnitState)
program_row p u None = done (record { ended = None; stores = [] })
program_row p u (Some program) =
    bind (next_ccw_read p program) (λ f.
    bind (device_read u) (λ d. bind (word_met p (device_seen u d) program f) (λ met. met_row p u f met)))

abbrev pub unit_row : Profile → ConfiguredUnit → Row (Option UnitState)
unit_row p u = bind (control_read u) (λ control. program_row p u (program_of control.state))

-- the row does what the channel makes of a unit, before any end of loading
abbrev pub ChannelsAreRows : Type 0
ChannelsAreRows = (u : ConfiguredUnit) (m : Machine) → after (unit_row (profile_of m.core) u) m ≡ after_channel u m
