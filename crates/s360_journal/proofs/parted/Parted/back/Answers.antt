use Rattle.std.proofs.Common.{refl}
use Rattle.s360_journal.proofs.PartLemmas.{part-back}
use Rattle.s360_journal.proofs.parted.Parted.back.Goals as goal

pub returns : goal.returns
returns g c =
    let one = part-back c.self.inside.items.items c.self.inside.standing c.self.invariant (rw (← c.self.view_is) at c.requires)
    in rw (← c.self.view_is) (rw (one.0, one.1) refl)
