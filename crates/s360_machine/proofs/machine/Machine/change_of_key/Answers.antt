use Rattle.std.proofs.Common.{None, rules, tests}
use Rattle.s360_channel.specs.UnitChanges.{IsUnitsChangeTo}
use Rattle.s360_channel.proofs.UnitChangeLemmas.{units-stay}
use Rattle.s360_machine.proofs.machine.Machine.change_of_key.Goals as goal

pub returns-in-Start : goal.returns-in-Start
returns-in-Start c =
    let stay : IsUnitsChangeTo c.args.self.now.whole.units None c.args.self.now.whole.units = units-stay c.args.self.now.whole.units
    in search (tests, rules)
