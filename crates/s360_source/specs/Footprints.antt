-- An event in the machine that meets it, and the word that its channel executes (ours).
use Rattle.std.specs.Prelude.{◌≡◌, Option, Some, None}
use Rattle.s360_channel.specs.declared.{configured_unit.ConfiguredUnit.ConfiguredUnit, unit_state.UnitState.UnitState}
use Rattle.s360_channel.specs.ConfiguredUnits.{control_of, unit_at}
use Rattle.s360_machine.specs.declared.event.Event.{Event}
use Rattle.s360_machine.specs.Machine.{Machine}
use Rattle.s360_source.specs.declared.channel_word.ChannelWord.{ChannelWord}
use Rattle.s360_source.specs.Channels.{IsChannelWord}

pub record Footprint : Type 0 where
  pub machine : Machine
  pub event : Event

-- a unit that executes a program has the word at hand with which that goes on
abbrev pub IsWordIn : Machine → ConfiguredUnit → UnitState → Option ChannelWord → Type 0
IsWordIn m u (UnitState.Active program) (Some x) = (x.unit ≡ u) × IsChannelWord program m x
IsWordIn m u (UnitState.Active program) None = ⊥
IsWordIn m u other x = Unit {0}

abbrev pub IsWordOf : Machine → Option ConfiguredUnit → Option ChannelWord → Type 0
IsWordOf m None x = Unit {0}
IsWordOf m (Some u) x = IsWordIn m u (control_of m.units u).state x

abbrev pub IsAtHand : Machine → Event → Option ChannelWord → Type 0
IsAtHand m (Event.Channel unit) x = IsWordOf m (unit_at unit.0) x
IsAtHand m event x = Unit {0}
