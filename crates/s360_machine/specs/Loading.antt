-- Initial program loading (GA22-6821, "System Control Panel", initial program loading).
use Rattle.std.specs.Prelude.{ℕ, Bool, false, ◌-◌, ◌&&◌, nat_eq, nat_lt, if◌then◌else◌, Option, Some, None, drop, take}
use Rattle.std.specs.Int.{bytes_high_first}
use Rattle.s360_model.specs.Core.{Core, core_with_bytes, core_with_psw}
use Rattle.s360_model.specs.Psw.{current_psw}
use Rattle.s360_model.specs.Storage.{doubleword_at}
use Rattle.s360_channel.specs.declared.unit_control.UnitControl.{UnitControl}
use Rattle.s360_channel.specs.declared.unit_state.UnitState.{UnitState}
use Rattle.s360_channel.specs.declared.unit_state.UnitState.TheVariants.{Idle, Active, Waiting}
use Rattle.s360_channel.specs.Execution.{Run}
use Rattle.s360_channel.specs.Programs.{loading_program}
use Rattle.s360_channel.specs.Words.{status_halfword}
use Rattle.s360_channel.specs.declared.configured_unit.ConfiguredUnit.{ConfiguredUnit}
use Rattle.s360_machine.specs.declared.run_state.RunState.{RunState}
use Rattle.s360_machine.specs.declared.run_state.RunState.TheVariants.{Operating, Loading}
use Rattle.s360_channel.specs.ConfiguredUnits.{Units, address_of_unit, control_of, idle_units, with_control_of}
use Rattle.s360_machine.specs.Machine.{Machine}

-- the unit from which the machine loads executes the program of loading
abbrev pub loading_unit : UnitControl
loading_unit = record { state = Active loading_program; attention = false }

-- after a reset every unit is idle, without attention, but the one from which the machine loads
-- then
abbrev pub units_after_reset : Option ConfiguredUnit → Units
units_after_reset None = idle_units
units_after_reset (Some u) = with_control_of idle_units u loading_unit

-- the machine loads from a unit, and the program of that unit has ended with channel end and device
-- end alone
abbrev pub has_loaded : RunState → ConfiguredUnit → UnitState → UnitState → Bool
has_loaded (Loading unit) u (Active p) (Waiting csw) = nat_eq unit.0 (address_of_unit u) && nat_eq (status_halfword csw.unit csw.channel) 0x0C00
has_loaded r u s t = false

-- the units that stand otherwise after an event of one end it
abbrev pub ends_loading : ConfiguredUnit → Machine → Units → Bool
ends_loading u m us = has_loaded m.control.run_state u (control_of m.units u).state (control_of us u).state

-- the doubleword at 0 becomes the PSW
abbrev pub with_initial_psw : Core → Core
with_initial_psw m = core_with_psw (current_psw (doubleword_at m.storage.bytes 0)) m

-- the address of the unit is stored in bits 16 to 31 of the word at 0, and then the PSW is loaded
unfoldable pub core_after_loading : ℕ → Core → Core
core_after_loading address m = with_initial_psw (core_with_bytes 2 (bytes_high_first 2 address) m)

-- of a run that is stored besides, what lies below the address of the unit, and what lies behind it
abbrev pub with_below : Option Run → Core → Core
with_below None m = m
with_below (Some r) m = if nat_lt r.at 2 then core_with_bytes r.at (take (2 - r.at) r.bytes) m else m

abbrev pub with_behind : Option Run → Core → Core
with_behind None m = m
with_behind (Some r) m = core_with_bytes (if nat_lt r.at 4 then 4 else r.at) (drop (4 - r.at) r.bytes) m

-- loading has ended: besides, the unit is idle, and the machine operates
abbrev pub after_load : ConfiguredUnit → Machine → Machine
after_load u m = record m {
  core = core_after_loading (address_of_unit u) m.core;
  control = record m.control { run_state = Operating };
  units = with_control_of m.units u (record (control_of m.units u) { state = Idle });
}

-- the machine after a channel event of a unit, by that before it and what the channel makes of it:
-- the event in which the program ends ends loading too (own profile)
abbrev pub after_loading : ConfiguredUnit → Machine → Machine → Machine
after_loading u m n = if ends_loading u m n.units then after_load u n else n
