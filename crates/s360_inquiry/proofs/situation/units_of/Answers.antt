use Rattle.std.proofs.Common.{[], arith}
use Rattle.s360_channel.specs.declared.configured_unit.ConfiguredUnit.TheVariants.{Reader}
use Rattle.s360_channel.specs.ConfiguredUnits.{configured_units}
use Rattle.s360_machine.specs.Machine.{seen}
use Rattle.s360_inquiry.specs.Situations.{unit_and_device}
use Rattle.s360_language.proofs.ShownLemmas.{told-more}
use Rattle.s360_inquiry.proofs.situation.units_of.Goals as goal

pub loop-unit-preserved : goal.loop-unit-preserved
loop-unit-preserved c =
    told-more (unit_and_device (seen c.args.machine.now.whole)) configured_units c.loop-unit.unit-index Reader [] _ _ (omega arith) c.loop-unit.invariant c.in_ok-push_unit.ensures
