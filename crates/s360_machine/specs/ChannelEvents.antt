-- A channel event of a unit: one channel command word of the program that it executes (GA22-6821,
-- "Input/Output Operations", execution of input/output operations).
use Rattle.std.specs.Prelude.{◌≡◌, IfSome, Option, Some, None, List, if◌then◌else◌}
use Rattle.std.specs.Option.{option_map_or}
use Rattle.s360_model.specs.Storage.{Storage}
use Rattle.s360_word.specs.declared.unit.Unit.{Unit}
use Rattle.s360_device.specs.Commands.{command_of}
use Rattle.s360_device.specs.declared.card.PunchedCard.{PunchedCard}
use Rattle.s360_device.specs.Punch.{punch_table}
use Rattle.s360_device.specs.Reader.{ReaderMedia, reader_table}
use Rattle.s360_device.specs.declared.device.Device.{Ghosts}
use Rattle.s360_device.specs.declared.device_with.DeviceWith.{DeviceWith}
use Rattle.s360_device.specs.Rows.{Table, after_command, begin_of, exception_of, input_of}
use Rattle.s360_print.specs.Console.{ConsoleMedia, console_table}
use Rattle.s360_print.specs.Printer.{PrinterMedia, printer_table}
use Rattle.s360_tape.specs.Tape.{TapeMedia, tape_table}
use Rattle.s360_channel.specs.declared.unit_control.UnitControl.{UnitControl}
use Rattle.s360_channel.specs.declared.unit_state.UnitState.{UnitState}
use Rattle.s360_channel.specs.declared.unit_state.UnitState.TheVariants.{Active}
use Rattle.s360_channel.specs.Execution.{DeviceView, Ending, Execution, channel_execution, core_with_run}
use Rattle.s360_channel.specs.Steps.{IsChangeOf, LiesIn, device_view, state_after_step}
use Rattle.s360_channel.specs.declared.engine.ChannelStep.{ChannelStep}
use Rattle.s360_channel.specs.declared.program.Program.{Program}
use Rattle.s360_channel.specs.UnitChanges.{same_unit}
use Rattle.s360_machine.specs.declared.channel_event.UnitStep.{UnitStep}
use Rattle.s360_channel.specs.declared.configured_unit.ConfiguredUnit.{ConfiguredUnit}
use Rattle.s360_channel.specs.declared.configured_unit.ConfiguredUnit.TheVariants.{Reader, Punch, Printer, Console, Tape0, Tape1}
use Rattle.s360_machine.specs.Loading.{after_loading}
use Rattle.s360_machine.specs.Machine.{Machine, Media}
use Rattle.s360_channel.specs.ConfiguredUnits.{control_of, unit_at, with_control_of}

-- a device as its channel sees it, by its table
abbrev pub view_of : {M : Type 0} → Table M → DeviceWith M → DeviceView
view_of t d = record {
  begin = λ code. begin_of t d (command_of code);
  input = λ code. input_of t d (command_of code);
  exception = λ code. exception_of t d (command_of code);
}

-- the device after the command that ends, if one does
abbrev pub after_ending : {M : Type 0} → Table M → DeviceWith M → Option Ending → DeviceWith M
after_ending t d None = d
after_ending t d (Some e) = after_command t d (command_of e.command) e.output

-- what a unit in a state executes: nothing happens for one that executes no program
abbrev pub execution_with : DeviceView → Storage → UnitState → Execution
execution_with d s (Active p) = channel_execution d s p
execution_with d s other = record { stores = None; state = other; ending = None }

abbrev pub execution_of : {M : Type 0} → Table M → DeviceWith M → Storage → UnitState → Execution
execution_of t d s state = execution_with (view_of t d) s state

-- which device is a unit's: with its table, and the devices with another in its place
abbrev pub at_device : {R : Type 0} → ConfiguredUnit → Media → ((M : Type 0) → Table M → DeviceWith M → (DeviceWith M → Media) → R) → R
at_device Reader m f = f ReaderMedia reader_table m.reader (λ d. record m { reader = d })
at_device Punch m f = f (List PunchedCard) punch_table m.punch (λ d. record m { punch = d })
at_device Printer m f = f PrinterMedia printer_table m.printer (λ d. record m { printer = d })
at_device Console m f = f ConsoleMedia console_table m.console (λ d. record m { console = d })
at_device Tape0 m f = f TapeMedia tape_table m.tape0 (λ d. record m { tape0 = d })
at_device Tape1 m f = f TapeMedia tape_table m.tape1 (λ d. record m { tape1 = d })

-- the execution of a unit's program, and the devices after the command that ends, if one does
abbrev pub execution_at : ConfiguredUnit → Machine → Execution
execution_at u m = at_device u m.media (λ M t d with_device. execution_of t d m.core.storage (control_of m.units u).state)

abbrev pub media_after : ConfiguredUnit → Option Ending → Media → Media
media_after u e m = at_device u m (λ M t d with_device. with_device (after_ending t d e))

-- the machine after a channel event of a unit: what it stores, the unit in the state afterwards, and its device, which
-- alone may be altered
abbrev pub after_execution : Execution → ConfiguredUnit → Machine → Machine
after_execution e u m = record m {
  core = core_with_run e.stores m.core;
  units = with_control_of m.units u (record (control_of m.units u) { state = e.state });
  media = media_after u e.ending m.media;
}

abbrev pub after_channel : ConfiguredUnit → Machine → Machine
after_channel u m = after_execution (execution_at u m) u m

-- the machine after a channel event, by the address of the unit
abbrev pub after_channel_event : Unit → Machine → Machine
after_channel_event unit m = option_map_or (λ u. after_loading u m (after_channel u m)) (unit_at unit.0) m

-- what a unit becomes, where that is not what it is
abbrev pub IsAlterationOf : UnitControl → UnitControl → Option UnitControl → Type 0
IsAlterationOf u v x = x ≡ (if same_unit u v then None else Some v)

-- a step of the program that it executes makes this of a unit
abbrev pub StepsTo : {C : Type 0} → UnitControl → ChannelStep C → Option UnitControl → Type 0
StepsTo u step x = (p : Program) → u.state ≡ Active p → IsAlterationOf u (record u { state = state_after_step p step }) x

-- a step executes what the state of the unit asks for: it has what that stores, the other state of the unit and the
-- change of the device, where they do not stay as they are
pub record ExecutesProgram {D C : Type 0} (g : Ghosts D C) (d : D) (s : Storage) (u : UnitControl) (step : UnitStep C) : Type 0 where
  pub stores : step.stores ≡ (execution_with (device_view g d) s u.state).stores
  pub inside : IfSome step.stores (λ r. LiesIn s r)
  pub control : IsAlterationOf u (record u { state = (execution_with (device_view g d) s u.state).state }) step.control
  pub change : IsChangeOf g d (execution_with (device_view g d) s u.state).ending step.change
