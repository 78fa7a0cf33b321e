use Rattle.s360_store.proofs.PlanPartLemmas.{IsPlan-after_put}
use Rattle.s360_store.specs.PlanParts.{cells_of_planned}
use Rattle.s360_store.proofs.plan.Plan.put.Goals as goal

pub invariant_of-self-2 : goal.invariant_of-self-2
invariant_of-self-2 c =
    IsPlan-after_put (cells_of_planned c.self.inside.planned) (cells_of_planned c.put.new.self) c.args.place c.args.value c.self.invariant (rw (← c.self.view_is) at c.requires) c.in_ok-put.ensures.ok
