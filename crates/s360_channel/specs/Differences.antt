-- Whether a unit is in the same state twice, as a test (ours), and the places of the units that differ.
use Rattle.std.specs.Prelude.{Bool, true, false, not, ◌&&◌, nat_eq, List, map}
use Rattle.std.specs.{Bool.beq, List.filter, Str.bytes_eq}
use Rattle.s360_store.specs.declared.place.Place.{Place}
use Rattle.s360_channel.specs.declared.{configured_unit.ConfiguredUnit.ConfiguredUnit, unit_control.UnitControl.UnitControl, unit_state.UnitState.UnitState}
use Rattle.s360_channel.specs.declared.{program.Program.Program, program.Progress.Progress}
use Rattle.s360_channel.specs.declared.csw.{Csw.Csw, UnitStatus.UnitStatus, ChannelStatus.ChannelStatus}
use Rattle.s360_channel.specs.ConfiguredUnits.{Units, address_of_unit, configured_units, control_of}

-- whether a unit is in the same state twice, as a test: two active units are alike where their programs are at the same point
abbrev pub same_unit_status : UnitStatus → UnitStatus → Bool
same_unit_status s t =
    beq s.attention t.attention
    && (beq s.status_modifier t.status_modifier
    && (beq s.control_unit_end t.control_unit_end
    && (beq s.busy t.busy
    && (beq s.channel_end t.channel_end
    && (beq s.device_end t.device_end
    && (beq s.unit_check t.unit_check
    && beq s.unit_exception t.unit_exception))))))

abbrev pub same_channel_status : ChannelStatus → ChannelStatus → Bool
same_channel_status s t =
    beq s.program_controlled t.program_controlled
    && (beq s.incorrect_length t.incorrect_length
    && (beq s.program_check t.program_check
    && beq s.protection_check t.protection_check))

abbrev pub same_csw : Csw → Csw → Bool
same_csw c d =
    nat_eq c.key d.key
    && (nat_eq c.address d.address
    && (same_unit_status c.unit d.unit
    && (same_channel_status c.channel d.channel
    && nat_eq c.count d.count)))

abbrev pub same_progress : Progress → Progress → Bool
same_progress Progress.First Progress.First = true
same_progress Progress.Loading Progress.Loading = true
same_progress Progress.CommandChained Progress.CommandChained = true
same_progress (Progress.InputChained command moved) (Progress.InputChained other count) = nat_eq command other && nat_eq moved count
same_progress (Progress.OutputChained command gathered) (Progress.OutputChained other bytes) = nat_eq command other && bytes_eq gathered bytes
same_progress p q = false

abbrev pub same_program : Program → Program → Bool
same_program p q = nat_eq p.key q.key && (nat_eq p.address q.address && same_progress p.progress q.progress)

abbrev pub same_state : UnitState → UnitState → Bool
same_state UnitState.Idle UnitState.Idle = true
same_state (UnitState.Active p) (UnitState.Active q) = same_program p q
same_state (UnitState.Waiting c) (UnitState.Waiting d) = same_csw c d
same_state s t = false

abbrev pub same_unit : UnitControl → UnitControl → Bool
same_unit u v = same_state u.state v.state && beq u.attention v.attention

-- the units that stand otherwise, and their places
abbrev pub altered_units : Units → Units → List ConfiguredUnit
altered_units us vs = filter (λ u. not (same_unit (control_of us u) (control_of vs u))) configured_units

abbrev pub state_place : ConfiguredUnit → Place
state_place u = Place.UnitState (record { 0 = address_of_unit u })

abbrev pub unit_differences : Units → Units → List Place
unit_differences us vs = map (λ u. state_place u) (altered_units us vs)
