use Rattle.s360_store.proofs.ByteCellLemmas.{IsPlan-after_put_bytes}
use Rattle.s360_store.specs.PlanParts.{cells_of_planned}
use Rattle.s360_store.proofs.plan.Plan.put_run.Goals as goal

pub invariant_of-self-2 : goal.invariant_of-self-2
invariant_of-self-2 c =
    IsPlan-after_put_bytes (cells_of_planned c.self.inside.planned) (cells_of_planned c.put_run.new.self) c.args.address c.args.bytes.now c.in_ok-done.done c.self.invariant (rw (← c.self.view_is) at c.requires.few) c.in_ok-done.ensures.ok
