use Rattle.std.proofs.Common.{◌≡◌, ◌<◌, ◌∙◌, [], ap, arith, drop, length, reverse, subst, sym, take, vec_capacity}
use Rattle.s360_journal.proofs.PartLemmas.{all-before}
use Rattle.s360_journal.proofs.parted.Parted.push.Goals as goal

pub push_reserved-requires : goal.push_reserved-requires
push_reserved-requires g c =
    let items = c.self.inside.items.items
    in let n = c.self.inside.standing
    in let room : length (reverse (take n items)) < vec_capacity c.self.inside.items = subst (λ p. length p.past < p.room) (sym c.self.view_is) c.requires.room
    in let last : drop n items ≡ [] = ap (λ p. p.next) c.self.view_is ∙ c.requires.last
    in omega (arith, room, all-before items n c.self.invariant last)
