use Rattle.std.proofs.Common.{ap, sym}
use Rattle.s360_journal.proofs.RunningLemmas.{OnErr-from}
use Rattle.s360_remote.proofs.LookingLemmas.{looked-none, looked-partly, moved-on}
use Rattle.s360_remote.specs.Moving.{Moved}
use Rattle.s360_remote.proofs.looking.go_one_on.Goals as goal

pub returns-in_err-accesses-clause-memory : goal.returns-in_err-accesses-clause-memory
returns-in_err-accesses-clause-memory c =
    OnErr-from c.from_residual.result _
    (0, sym (ap (λ (x : Moved). x.recorded) (looked-none c.args.points.now c.args.reach c.args.session.now)))

pub returns-in_err-why-clause-memory : goal.returns-in_err-why-clause-memory
returns-in_err-why-clause-memory c =
    let run = c.in_err-why.ensures.memory
    in OnErr-from c.from_residual-in_err-why.result _
    (looked-partly c.args.points.now c.args.reach c.args.session.now c.run.new.self run.0 run.1)

pub returns-clause-paused : goal.returns-clause-paused
returns-clause-paused c =
    moved-on c.args.points.now c.args.reach c.args.session.now c.run.new.self c.in_ok-accesses.accesses c.in_ok-why.why c.after.result
    c.bytes_altered.result c.with_accessed-met.result c.in_ok-accesses.ensures c.in_ok-why.ensures.end c.in_ok-why.ensures.state
    c.bytes_altered.ensures.bytes c.with_accessed-met.ensures c.after.ensures
