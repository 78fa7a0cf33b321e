-- The tests of whether a unit is in the same state twice decide whether the states are equal.
use Rattle.std.proofs.Common.{refl}
use Rattle.std.specs.Cmp.{booleans_Decides}
use Rattle.std.proofs.lemmas.Bool.Decides.{Decides-eqb, Decides-like}
use Rattle.std.proofs.lemmas.Slice.Eq.{bytes_eq-Decides}
use Rattle.s360_device.specs.Differences.{DecidesEquality}
use Rattle.s360_device.proofs.EqualityLemmas.{both, by_parts}
use Rattle.s360_channel.specs.declared.csw.Csw.{Csw}
use Rattle.s360_channel.specs.declared.csw.UnitStatus.{UnitStatus}
use Rattle.s360_channel.specs.declared.csw.ChannelStatus.{ChannelStatus}
use Rattle.s360_channel.specs.declared.program.Program.{Program}
use Rattle.s360_channel.specs.declared.program.Progress.TheVariants.{First, Loading, CommandChained, InputChained, OutputChained}
use Rattle.s360_channel.specs.declared.unit_control.UnitControl.{UnitControl}
use Rattle.s360_channel.specs.declared.unit_state.UnitState.TheVariants.{Idle, Active, Waiting}
use Rattle.s360_channel.specs.UnitChanges.{same_unit_status, same_channel_status, same_csw, same_progress, same_program, same_state, same_unit}

pub same_unit_status-Decides : DecidesEquality same_unit_status
same_unit_status-Decides = by_parts
    (λ (s : UnitStatus). (s.attention, (s.status_modifier, (s.control_unit_end, (s.busy, (s.channel_end, (s.device_end, (s.unit_check, s.unit_exception))))))))
    (λ p. record {
      attention = p.0;
      status_modifier = p.1.0;
      control_unit_end = p.1.1.0;
      busy = p.1.1.1.0;
      channel_end = p.1.1.1.1.0;
      device_end = p.1.1.1.1.1.0;
      unit_check = p.1.1.1.1.1.1.0;
      unit_exception = p.1.1.1.1.1.1.1;
    })
    (λ s. refl)
    (both booleans_Decides (both booleans_Decides (both booleans_Decides (both booleans_Decides (both booleans_Decides (both booleans_Decides (both booleans_Decides booleans_Decides)))))))

pub same_channel_status-Decides : DecidesEquality same_channel_status
same_channel_status-Decides = by_parts
    (λ (s : ChannelStatus). (s.program_controlled, (s.incorrect_length, (s.program_check, s.protection_check))))
    (λ p. record { program_controlled = p.0; incorrect_length = p.1.0; program_check = p.1.1.0; protection_check = p.1.1.1 })
    (λ s. refl)
    (both booleans_Decides (both booleans_Decides (both booleans_Decides booleans_Decides)))

pub same_csw-Decides : DecidesEquality same_csw
same_csw-Decides = by_parts
    (λ (c : Csw). (c.key, (c.address, (c.unit, (c.channel, c.count)))))
    (λ p. record { key = p.0; address = p.1.0; unit = p.1.1.0; channel = p.1.1.1.0; count = p.1.1.1.1 })
    (λ c. refl)
    (both Decides-eqb (both Decides-eqb (both same_unit_status-Decides (both same_channel_status-Decides Decides-eqb))))

pub same_progress-Decides : DecidesEquality same_progress
same_progress-Decides First First = (λ e. refl, λ e. refl)
same_progress-Decides Loading Loading = (λ e. refl, λ e. refl)
same_progress-Decides CommandChained CommandChained = (λ e. refl, λ e. refl)
same_progress-Decides (InputChained command moved) (InputChained other count) = Decides-like
    (same_progress (InputChained command moved) (InputChained other count))
    (λ e i. InputChained (e i).0 (e i).1)
    (λ e. cc)
    (both Decides-eqb Decides-eqb (command, moved) (other, count))
same_progress-Decides (OutputChained command gathered) (OutputChained other bytes) = Decides-like
    (same_progress (OutputChained command gathered) (OutputChained other bytes))
    (λ e i. OutputChained (e i).0 (e i).1)
    (λ e. cc)
    (both Decides-eqb bytes_eq-Decides (command, gathered) (other, bytes))
same_progress-Decides p q = (λ e. absurd (cc), λ e. absurd (cc))

pub same_program-Decides : DecidesEquality same_program
same_program-Decides = by_parts
    (λ (p : Program). (p.key, (p.address, p.progress)))
    (λ p. record { key = p.0; address = p.1.0; progress = p.1.1 })
    (λ p. refl)
    (both Decides-eqb (both Decides-eqb same_progress-Decides))

pub same_state-Decides : DecidesEquality same_state
same_state-Decides Idle Idle = (λ e. refl, λ e. refl)
same_state-Decides (Active p) (Active q) = Decides-like (same_program p q) (λ e. cc) (λ e. cc) (same_program-Decides p q)
same_state-Decides (Waiting c) (Waiting d) = Decides-like (same_csw c d) (λ e. cc) (λ e. cc) (same_csw-Decides c d)
same_state-Decides s t = (λ e. absurd (cc), λ e. absurd (cc))

pub same_unit-Decides : DecidesEquality same_unit
same_unit-Decides = by_parts
    (λ (u : UnitControl). (u.state, u.attention))
    (λ p. record { state = p.0; attention = p.1 })
    (λ u. refl)
    (both same_state-Decides booleans_Decides)
