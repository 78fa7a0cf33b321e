use Rattle.std.proofs.Common.{arith, refl}
use Rattle.s360_store.specs.declared.place.Place.TheVariants.{Register}
use Rattle.s360_store.proofs.PutLemmas.{AddsToPlan-put}
use Rattle.s360_store.proofs.plan.Plan.put_register.Goals as goal

pub returns-clause-ok : goal.returns-clause-ok
returns-clause-ok c =
    rw (c.in_ok-put.ensures.ok, c.from.ensures, c.number.ensures.value) (AddsToPlan-put c.args.self.now (Register c.args.register) c.args.word (λ b. omega arith))

pub returns-clause-cell : goal.returns-clause-cell
returns-clause-cell c = rw (c.in_ok-put.ensures.ok, c.from.ensures, c.number.ensures.value) refl
