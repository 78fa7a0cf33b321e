use Rattle.std.proofs.Common.{refl}
use Rattle.s360_store.proofs.PutLemmas.{AddsToPlan-key}
use Rattle.s360_store.proofs.plan.Plan.put_key.Goals as goal

pub returns-clause-ok : goal.returns-clause-ok
returns-clause-ok c =
    rw (c.in_ok-put.ensures.ok, c.from.ensures, c.number.ensures.value) (AddsToPlan-key c.args.self.now c.args.block c.args.key)

pub returns-clause-cell : goal.returns-clause-cell
returns-clause-cell c = rw (c.in_ok-put.ensures.ok, c.from.ensures, c.number.ensures.value) refl
