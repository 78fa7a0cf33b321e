use Rattle.std.proofs.Common.{◌≡◌, ◌∙◌, sym, true, false}
use Rattle.s360_channel.specs.ConfiguredUnits.{control_of}
use Rattle.s360_channel.specs.UnitChanges.{same_unit}
use Rattle.s360_channel.proofs.UnitChangeLemmas.{IsUnitsChangeTo-one}
use Rattle.s360_channel.proofs.units.Units.change_of.Goals as goal

pub returns-then-is : goal.returns-then-is
returns-then-is c =
    let same : same_unit (control_of c.args.self.now c.args.unit) c.args.next ≡ true = sym (rw c.control.ensures.control at c.is.ensures) ∙ c.if-is.true
    in rw same at (IsUnitsChangeTo-one c.args.self.now c.args.unit c.args.next c.control.ensures.each)

pub returns-else-is : goal.returns-else-is
returns-else-is c =
    let other : same_unit (control_of c.args.self.now c.args.unit) c.args.next ≡ false = sym (rw c.control.ensures.control at c.is.ensures) ∙ c.if-is.false
    in rw other at (IsUnitsChangeTo-one c.args.self.now c.args.unit c.args.next c.control.ensures.each)
