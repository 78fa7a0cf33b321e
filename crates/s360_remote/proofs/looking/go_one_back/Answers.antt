use Rattle.std.proofs.Common.{◌≡◌, ◌∙◌}
use Rattle.s360_journal.proofs.RunningLemmas.{OnErr-from}
use Rattle.s360_journal.specs.Returning.{one_back}
use Rattle.s360_remote.specs.Points.{stops_of}
use Rattle.s360_remote.proofs.LookingLemmas.{moved-back, taken-with, taken-without}
use Rattle.s360_remote.proofs.looking.go_one_back.Goals.{in-Watch, in_default}
use Rattle.s360_remote.proofs.looking.go_one_back.Goals as goal

pub returns-in_err-accesses-clause-memory : goal.returns-in_err-accesses-clause-memory
returns-in_err-accesses-clause-memory c =
    let taken : c.match-why.session ≡ one_back c.args.session.now
    = elim c.match-why.branch [
      | in-Watch w ↦ w.session-is ∙ taken-with (stops_of c.args.points.now) c.args.reach c.args.session.now c.run_back-why.new.self w.step_back-taken.new.self
          c.run_back-why.result c.requires c.run_back-why.ensures.why c.run_back-why.ensures.state w.in-Watch.is w.step_back-taken.ensures.state
      | in_default w ↦ w.session-is ∙ taken-without (stops_of c.args.points.now) c.args.reach c.args.session.now c.run_back-why.new.self
          c.run_back-why.result c.requires c.run_back-why.ensures.why c.run_back-why.ensures.state w.in_default.not-Watch
    ]
    in OnErr-from c.from_residual.result _ taken

pub returns-clause-paused : goal.returns-clause-paused
returns-clause-paused c =
    let taken : c.match-why.session ≡ one_back c.args.session.now
    = elim c.match-why.branch [
      | in-Watch w ↦ w.session-is ∙ taken-with (stops_of c.args.points.now) c.args.reach c.args.session.now c.run_back-why.new.self w.step_back-taken.new.self
          c.run_back-why.result c.requires c.run_back-why.ensures.why c.run_back-why.ensures.state w.in-Watch.is w.step_back-taken.ensures.state
      | in_default w ↦ w.session-is ∙ taken-without (stops_of c.args.points.now) c.args.reach c.args.session.now c.run_back-why.new.self
          c.run_back-why.result c.requires c.run_back-why.ensures.why c.run_back-why.ensures.state w.in_default.not-Watch
    ]
    in moved-back c.args.points.now c.args.reach c.args.session.now c.match-why.session c.in_ok-accesses.accesses c.run_back-why.result c.after.result
    c.bytes_altered-altered.result c.with_accessed-met.result taken c.in_ok-accesses.ensures c.run_back-why.ensures.why
    c.bytes_altered-altered.ensures.bytes c.with_accessed-met.ensures c.after.ensures
