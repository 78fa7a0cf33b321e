use Rattle.std.proofs.Common.{◌≡◌, ◌+◌, ◌-◌, sym, subst, take, arith}
use Rattle.s360_journal.specs.Recorded.{AreRun, Recorded}
use Rattle.s360_journal.specs.Running.{run_in}
use Rattle.s360_journal.proofs.RunningLemmas.{IsRunning-start, IsRunning-more, IsRunning-ended, IsRunning-all, IsRunning-part, OnErr-from}
use Rattle.s360_journal.proofs.session.Session.run.Goals as goal

pub loop-event-init : goal.loop-event-init
loop-event-init t c =
    let all : c.args.most - 0 ≡ c.args.most = omega arith
    in rw all (IsRunning-start _ c.args.turn c.args.reach c.args.self.now c.args.most)

pub loop-event-preserved : goal.loop-event-preserved
loop-event-preserved t c =
    let left : c.args.most - c.loop-event._event ≡ c.args.most - (c.loop-event._event + 1) + 1 = omega arith
    in IsRunning-more _ _ _ _ _ _ _ _ _ left c.loop-event.invariant (rw c.in_default.is at c.in_ok-pause.ensures.taken)

pub returns-in-Some : goal.returns-in-Some
returns-in-Some t c =
    let left : c.args.most - c.loop-event._event ≡ c.args.most - (c.loop-event._event + 1) + 1 = omega arith
    in let run = IsRunning-ended _ c.args.turn c.args.reach c.args.self.now c.loop-event.self c.take_turn.new.self c.args.most _ _ c.in-Some.pause left c.loop-event.invariant (rw c.in-Some.is at c.in_ok-pause.ensures.taken)
    in record { end = run.why; state = run.ran; memory = tt }

pub returns : goal.returns
returns t c =
    let none : c.args.most - c.loop-event._event ≡ 0 = omega arith
    in let run = IsRunning-all _ c.args.turn c.args.reach c.args.self.now c.loop-event.self c.args.most _ none c.loop-event.invariant
    in record { end = run.why; state = run.ran; memory = tt }

pub returns-in_err-pause-clause-memory : goal.returns-in_err-pause-clause-memory
returns-in_err-pause-clause-memory t c =
    let part = IsRunning-part _ c.args.turn c.args.reach c.args.self.now c.loop-event.self c.args.most _ c.loop-event.invariant
    in OnErr-from c.from_residual.result _ (part.0, subst (λ (r : Recorded). AreRun c.args.self.now (take part.0 (run_in (t.S.Stops.stops_of c.args.stops.now) c.args.turn c.args.reach c.args.self.now c.args.most).events) r) (sym c.in_err-pause.ensures.memory) part.1)
