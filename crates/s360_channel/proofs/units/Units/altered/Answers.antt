use Rattle.std.proofs.Common.{◌≡◌, ◌<◌, ◌∙◌, true, false, arith, get_or, length-append, sym, [], ◌∷◌}
use Rattle.s360_channel.specs.declared.configured_unit.ConfiguredUnit.{ConfiguredUnit}
use Rattle.s360_channel.specs.declared.configured_unit.ConfiguredUnit.TheVariants.{Reader}
use Rattle.s360_channel.specs.ConfiguredUnits.{configured_units, control_of}
use Rattle.s360_channel.specs.UnitChanges.{same_unit}
use Rattle.s360_channel.proofs.UnitChangeLemmas.{altered-other, altered-same, control-at}
use Rattle.s360_channel.proofs.units.Units.altered.Goals as goal
use Rattle.s360_channel.proofs.units.Units.altered.Goals.{then-not-is, else-not-is}

pub loop-unit-preserved : goal.loop-unit-preserved
loop-unit-preserved c =
    let us = c.args.self.now
    in let vs = c.args.next.now
    in let u : ConfiguredUnit = get_or configured_units c.loop-unit.unit-index Reader
    in let within : c.loop-unit.unit-index < 6 = omega (arith, c.loop-unit-test.true)
    in let now : c.index-now-at.result ≡ control_of us u
    = control-at us u c.index-now-at.result c.as_slice-now.ensures.each (rw (c.as_slice-now.ensures.controls, c.index-at.ensures.index) at c.index-now-at.is)
    in let then : c.index-then-at.result ≡ control_of vs u
    = control-at vs u c.index-then-at.result c.as_slice-then.ensures.each (rw (c.as_slice-then.ensures.controls, c.index-at.ensures.index) at c.index-then-at.is)
    in let test : c.is.result ≡ same_unit (control_of us u) (control_of vs u) = rw (now, then) at c.is.ensures
    in elim c.if-not-is.branch [
      | then-not-is w ↦
          let other : same_unit (control_of us u) (control_of vs u) ≡ false = sym test ∙ w.if-not-is.true
          in rw (w.altered-is, w.push.ensures.items) (record {
            altered = altered-other us vs _ _ within c.loop-unit.invariant.altered other;
            few = omega (arith, length-append c.loop-unit.altered.items (u ∷ []), c.loop-unit.invariant.few);
          })
      | else-not-is w ↦
          let same : same_unit (control_of us u) (control_of vs u) ≡ true = sym test ∙ w.if-not-is.false
          in rw w.altered-is (record {
            altered = altered-same us vs _ _ within c.loop-unit.invariant.altered same;
            few = omega (arith, c.loop-unit.invariant.few);
          })
    ]
