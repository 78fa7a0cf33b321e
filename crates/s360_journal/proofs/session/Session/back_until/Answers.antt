use Rattle.std.proofs.Common.{◌≤◌, ◌∙◌, ap, arith, length, subst}
use Rattle.s360_journal.specs.Recorded.{Recorded}
use Rattle.s360_journal.specs.Returning.{back_of}
use Rattle.s360_journal.specs.Running.{stops_at}
use Rattle.s360_journal.specs.declared.running.Reach.TheVariants.{Stop}
use Rattle.s360_journal.proofs.StopLemmas.{back-stops}
use Rattle.s360_journal.proofs.session.Session.back_until.Goals as goal

pub returns-clause-stop : goal.returns-clause-stop
returns-clause-stop c =
    let r : Recorded = c.args.self.now
    in let within : r.standing ≤ length r.events = subst (λ n. n ≤ length r.events) c.standing.ensures.standing c.standing.ensures.within
    in c.standing-2.ensures.standing ∙ ap (λ (k : Recorded). k.standing) c.run_back-pause.ensures.state
    ∙ ap (λ n. (back_of (stops_at c.args.breaks.now) Stop r n).standing) c.standing.ensures.standing
    ∙ back-stops c.args.breaks.now r.standing r within (omega arith)
