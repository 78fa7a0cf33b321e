-- The tests of whether two run states, or external conditions, are the same decide whether they are equal.
use Rattle.std.proofs.Common.{refl}
use Rattle.std.specs.Cmp.{booleans_Decides}
use Rattle.std.proofs.lemmas.Bool.Decides.{Decides-eqb, Decides-like}
use Rattle.s360_device.specs.Differences.{DecidesEquality}
use Rattle.s360_device.proofs.EqualityLemmas.{both, by_parts}
use Rattle.s360_machine.specs.declared.external.ExternalConditions.{ExternalConditions}
use Rattle.s360_machine.specs.declared.run_state.RunState.TheVariants.{Operating, Stopped, Loading}
use Rattle.s360_machine.specs.Differences.{same_external, same_run_state}

pub same_run_state-Decides : DecidesEquality same_run_state
same_run_state-Decides Operating Operating = (λ e. refl, λ e. refl)
same_run_state-Decides Stopped Stopped = (λ e. refl, λ e. refl)
same_run_state-Decides (Loading u) (Loading v) = Decides-like (same_run_state (Loading u) (Loading v)) (λ e i. Loading (record { 0 = e i })) (λ e. cc) (Decides-eqb u.0 v.0)
same_run_state-Decides r s = (λ e. absurd (cc), λ e. absurd (cc))

pub same_external-Decides : DecidesEquality same_external
same_external-Decides = by_parts
    (λ (e : ExternalConditions). (e.timer, e.key))
    (λ p. record { timer = p.0; key = p.1 })
    (λ e. refl)
    (both booleans_Decides booleans_Decides)
