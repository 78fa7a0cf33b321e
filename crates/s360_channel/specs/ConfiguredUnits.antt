-- The units of the machine: the card reader 00C, the card punch 00D, the printer 00E and the console 01F on channel 0, and the magnetic tapes 180 and 181 on
-- channel 1 (own profile).
use Rattle.std.specs.Prelude.{◌≡◌, ℕ, ◌/◌, nat_eq, Bool, false, ◌&&◌, if◌then◌else◌, Option, Some, None, is_some, List, [], ◌∷◌, length, map, slice_index_or}
use Rattle.std.specs.Prelude.{slice_set}
use Rattle.std.specs.{Option.option_map, Option.option_map_or, List.find}
use Rattle.s360_model.specs.Psw.{channel_mask_of}
use Rattle.s360_word.specs.declared.unit.Unit.{Unit as UnitAddress}
use Rattle.s360_channel.specs.{declared.configured_unit.ChannelKind.ChannelKind, Units.idle_unit, Units.is_active, Units.is_pending}
use Rattle.s360_channel.specs.declared.{configured_unit.ConfiguredUnit.ConfiguredUnit, unit_control.UnitControl.UnitControl, unit_state.UnitState.UnitState}
use Rattle.s360_channel.specs.declared.configured_unit.ConfiguredUnit.TheVariants.{Reader, Punch, Printer, Console, Tape0, Tape1}

-- the units in the order of their addresses, and the place of each among them
abbrev pub configured_units : List ConfiguredUnit
configured_units = Reader ∷ Punch ∷ Printer ∷ Console ∷ Tape0 ∷ Tape1 ∷ []

abbrev pub index_of : ConfiguredUnit → ℕ
index_of Reader = 0
index_of Punch = 1
index_of Printer = 2
index_of Console = 3
index_of Tape0 = 4
index_of Tape1 = 5

abbrev pub address_of_unit : ConfiguredUnit → ℕ
address_of_unit Reader = 0x00C
address_of_unit Punch = 0x00D
address_of_unit Printer = 0x00E
address_of_unit Console = 0x01F
address_of_unit Tape0 = 0x180
address_of_unit Tape1 = 0x181

-- the unit at an address, if there is one
abbrev pub unit_at : ℕ → Option ConfiguredUnit
unit_at address = find (λ u. nat_eq address (address_of_unit u)) configured_units

-- the high byte of a unit's address is its channel
abbrev pub channel_of : ConfiguredUnit → ℕ
channel_of u = address_of_unit u / 0x100

-- channel 0 executes the programs of its units side by side, channel 1 one program at a time (own profile)
abbrev pub kind_of : ConfiguredUnit → ChannelKind
kind_of Tape0 = ChannelKind.Selector
kind_of Tape1 = ChannelKind.Selector
kind_of u = ChannelKind.Multiplexer

-- how the units stand on their channels, one after another
abbrev pub Units : Type 0
Units = List UnitControl

abbrev pub HasEachUnit : Units → Type 0
HasEachUnit us = length us ≡ 6

-- what several units become at once: how all stand, and which of them stand otherwise
pub record SeveralUnits : Type 0 where
  pub units : Units
  pub altered : List ConfiguredUnit

-- nothing is done for any of them, and none asks for anything
abbrev pub idle_units : Units
idle_units = map (λ u. idle_unit) configured_units

-- how a unit stands, and the units with one that stands otherwise
abbrev pub control_of : Units → ConfiguredUnit → UnitControl
control_of us u = slice_index_or us (index_of u) idle_unit

abbrev pub with_control_of : Units → ConfiguredUnit → UnitControl → Units
with_control_of us u v = slice_set us (index_of u) v

-- by an address: what the channel does for the unit, if there is one, and whether it asks for attention
abbrev pub state_at : Units → UnitAddress → Option UnitState
state_at us address = option_map (λ u. (control_of us u).state) (unit_at address.0)

abbrev pub attention_at : Units → UnitAddress → Bool
attention_at us address = option_map_or (λ u. (control_of us u).attention) (unit_at address.0) false

-- the lowest unit of a channel that has a condition for an interruption, and its address
abbrev pub lowest_pending : Units → ℕ → Option ConfiguredUnit
lowest_pending us channel = find (λ u. nat_eq (channel_of u) channel && is_pending (control_of us u)) configured_units

abbrev pub pending_unit : Units → ℕ → Option UnitAddress
pending_unit us channel = option_map (λ u. record { 0 = address_of_unit u }) (lowest_pending us channel)

-- the unit that interrupts: the lowest with a condition whose channel the PSW lets interrupt (own profile)
abbrev pub interrupting_unit : ℕ → Units → Option ConfiguredUnit
interrupting_unit psw us = find (λ u. channel_mask_of psw (channel_of u) && is_pending (control_of us u)) configured_units

-- the other tape, where a unit is a tape and the other is active
abbrev pub active_beside : Units → ConfiguredUnit → Option ConfiguredUnit
active_beside us Tape0 = if is_active (control_of us Tape1).state then Some Tape1 else None
active_beside us Tape1 = if is_active (control_of us Tape0).state then Some Tape0 else None
active_beside us u = None

-- the channel of a unit executes another program, and one at a time
abbrev pub is_occupied : Units → ConfiguredUnit → Bool
is_occupied us u = is_some (active_beside us u)

-- the lowest unit for which a channel executes a program
abbrev pub active_unit : Units → Option ConfiguredUnit
active_unit us = find (λ u. is_active (control_of us u).state) configured_units
