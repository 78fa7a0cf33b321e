use Rattle.std.proofs.Common.{◌≡◌, []}
use Rattle.s360_channel.specs.UnitChanges.{altered_units}
use Rattle.s360_channel.proofs.UnitChangeLemmas.{IsUnitsChangeTo-several, is-empty, none-altered}
use Rattle.s360_channel.proofs.units.Units.change_to.Goals as goal

pub returns-then-is_empty : goal.returns-then-is_empty
returns-then-is_empty c =
    let none : altered_units c.args.self.now c.args.next ≡ [] = rw c.altered-altered.ensures.altered at (is-empty c.altered-altered.result.items (c.if-is_empty.ensures))
    in none-altered c.args.self.now c.args.next c.altered-altered.ensures.each c.altered-altered.ensures.all none

pub returns : goal.returns
returns c =
    rw c.in_ok-several.ensures (IsUnitsChangeTo-several c.args.self.now _ c.altered-altered.ensures.each c.altered-altered.ensures.all c.altered-altered.ensures.altered)
