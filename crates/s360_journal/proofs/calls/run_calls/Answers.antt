use Rattle.std.proofs.Common.{◌∙◌, ap, subst}
use Rattle.s360_machine.specs.Machine.{Whole, seen}
use Rattle.s360_journal.specs.Calls.{IsRun, new_session, state_after_all}
use Rattle.s360_journal.specs.Recorded.{Recorded, standing_events}
use Rattle.s360_journal.specs.Rerun.{AreAccepted, rerun}
use Rattle.s360_journal.proofs.RunLemmas.{leads-IsRun, start-calls}
use Rattle.s360_journal.proofs.calls.run_calls.Goals as goal

pub returns-clause-machine : goal.returns-clause-machine
returns-clause-machine c =
    let first : Recorded = new_session c.args.start.whole c.args.limit
    in let run : IsRun first c.args.calls.items c.in_ok-answers.answers.items c.perform_all.new.self = rw c.new-session.ensures at c.in_ok-answers.ensures.run
    in c.into_machine.ensures.rerun ∙ ap (λ (t : Recorded). rerun (seen t.start) (standing_events t)) (leads-IsRun _ _ _ _ run)
    ∙ ap (λ (w : Whole). rerun (seen w) (standing_events (state_after_all first c.args.calls.items c.in_ok-answers.answers.items))) (start-calls first c.args.calls.items c.in_ok-answers.answers.items)

pub returns-clause-accepted : goal.returns-clause-accepted
returns-clause-accepted c =
    let first : Recorded = new_session c.args.start.whole c.args.limit
    in let run : IsRun first c.args.calls.items c.in_ok-answers.answers.items c.perform_all.new.self = rw c.new-session.ensures at c.in_ok-answers.ensures.run
    in subst (λ (w : Whole). AreAccepted (seen w) (standing_events (state_after_all first c.args.calls.items c.in_ok-answers.answers.items))) (start-calls first c.args.calls.items c.in_ok-answers.answers.items)
    (subst (λ (t : Recorded). AreAccepted (seen t.start) (standing_events t)) (leads-IsRun _ _ _ _ run) c.into_machine.ensures.accepted)
