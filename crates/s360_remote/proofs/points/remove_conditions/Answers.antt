use Rattle.std.proofs.Common.{not, nat_eq, rules}
use Rattle.s360_remote.specs.Points.{Conditional}
use Rattle.s360_remote.proofs.PointLemmas.{filter-from_retained}
use Rattle.s360_remote.proofs.points.remove_conditions.Goals as goal

pub returns-clause-items : goal.returns-clause-items
returns-clause-items c = filter-from_retained _ (λ (x : Conditional). not (nat_eq x.at c.args.at)) _ (λ x b g called. search rules) _ _ c.retain.ensures.filtered
