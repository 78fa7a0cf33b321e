use Rattle.std.proofs.Common.{refl}
use Rattle.s360_store.specs.declared.place.Place.TheVariants.{Psw}
use Rattle.s360_psw.proofs.PswLemmas.{stored_psw-zero}
use Rattle.s360_store.proofs.PutLemmas.{AddsToPlan-put}
use Rattle.s360_store.proofs.plan.Plan.put_psw.Goals as goal

pub returns-clause-ok : goal.returns-clause-ok
returns-clause-ok c =
    rw (c.in_ok-put.ensures.ok, c.stored.ensures.value, stored_psw-zero)
    (AddsToPlan-put c.args.self.now Psw c.args.psw (λ b. c.stored.ensures.current))

pub returns-clause-cell : goal.returns-clause-cell
returns-clause-cell c = rw (c.in_ok-put.ensures.ok, c.stored.ensures.value, stored_psw-zero) refl
