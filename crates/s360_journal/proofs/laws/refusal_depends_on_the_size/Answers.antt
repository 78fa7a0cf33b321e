use Rattle.std.proofs.Common.{◌≡◌, None, subst}
use Rattle.s360_machine.specs.Refusals.{refusal_of}
use Rattle.s360_machine.specs.Machine.{storage_size}
use Rattle.s360_machine.specs.Step.{after}
use Rattle.s360_journal.proofs.HistoryLemmas.{IsStep-from, step-Ok}
use Rattle.s360_journal.proofs.laws.refusal_depends_on_the_size.Goals as goal

pub returns : goal.returns
returns c m n e same accepted =
    let allowed : refusal_of (storage_size m) e ≡ None = (IsStep-from m e (after m e) accepted).accepted
    in step-Ok n e (subst (λ size. refusal_of size e ≡ None) same allowed)
