-- The keys of the operator (GA22-6821, "System Control Panel").
use Rattle.std.specs.Prelude.{true, None}
use Rattle.s360_machine.specs.declared.operator.Key.{Key}
use Rattle.s360_machine.specs.declared.operator.Key.TheVariants.{Start, Stop, Reset, Interrupt, EndOfFile, Request, Enter, Load}
use Rattle.s360_machine.specs.declared.run_state.RunState.{RunState}
use Rattle.s360_machine.specs.declared.run_state.RunState.TheVariants.{Operating, Stopped, Loading}
use Rattle.s360_device.specs.Reader.{with_end_key}
use Rattle.s360_print.specs.Console.{with_line}
use Rattle.s360_channel.specs.declared.configured_unit.ConfiguredUnit.TheVariants.{Console}
use Rattle.s360_channel.specs.ConfiguredUnits.{Units, control_of, unit_at, with_control_of}
use Rattle.s360_machine.specs.Machine.{Control, Machine, Media, no_external}
use Rattle.s360_machine.specs.Loading.{units_after_reset}

-- the start key works while the machine is stopped, the stop key while it operates
abbrev pub after_start : RunState → RunState
after_start Stopped = Operating
after_start other = other

abbrev pub after_stop : RunState → RunState
after_stop Operating = Stopped
after_stop other = other

-- the reset key stops the machine, and no external condition is pending any more; the PSW, the
-- registers, storage and the storage keys stay (own profile). The load key does so too, and the
-- machine loads from its unit. The interrupt key makes its condition pending. The other keys are
-- those of units
abbrev pub control_after_key : Key → Control → Control
control_after_key Start c = record c { run_state = after_start c.run_state }
control_after_key Stop c = record c { run_state = after_stop c.run_state }
control_after_key Reset c = record c { run_state = Stopped; external = no_external }
control_after_key (Load unit) c = record c { run_state = Loading unit; external = no_external }
control_after_key Interrupt c = record c { external = record c.external { key = true } }
control_after_key other c = c

-- the reset key makes every unit idle, without attention; sense bytes and media stay (own profile).
-- So does the load key, but for its unit. The request key makes the console ask for attention
abbrev pub units_after_key : Key → Units → Units
units_after_key Reset us = units_after_reset None
units_after_key (Load unit) us = units_after_reset (unit_at unit.0)
units_after_key Request us = with_control_of us Console (record (control_of us Console) { attention = true })
units_after_key other us = us

-- the end-of-file key stays pressed (own profile). A line that is entered is the console's
abbrev pub media_after_key : Key → Media → Media
media_after_key EndOfFile m = record m { reader = with_end_key m.reader }
media_after_key (Enter line) m = record m { console = record m.console { media = with_line m.console.media line } }
media_after_key other m = m

abbrev pub after_key : Machine → Key → Machine
after_key m k = record m { control = control_after_key k m.control; units = units_after_key k m.units; media = media_after_key k m.media }
