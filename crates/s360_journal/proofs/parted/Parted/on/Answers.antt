use Rattle.std.proofs.Common.{refl}
use Rattle.s360_journal.proofs.PartLemmas.{part-on}
use Rattle.s360_journal.proofs.parted.Parted.on.Goals as goal

pub returns : goal.returns
returns g c =
    let one = part-on c.self.inside.items.items c.self.inside.standing (rw (← c.self.view_is) at c.requires)
    in rw (← c.self.view_is) (rw (one.0, one.1) refl)
