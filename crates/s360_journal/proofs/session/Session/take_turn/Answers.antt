use Rattle.std.proofs.Common.{◌≡◌, ◌≢◌, ◌≤◌, ◌∙◌, arith, ap, length, rules, subst, sym, None, Some}
use Rattle.s360_machine.specs.declared.event.Event.{Event}
use Rattle.s360_machine.specs.declared.refusal.Refusal.TheVariants.{Memory}
use Rattle.s360_journal.specs.Recorded.{Recorded, session_of}
use Rattle.s360_journal.specs.Running.{IsTurn, next_event}
use Rattle.s360_journal.specs.Standing.{machine_of, refusal_in}
use Rattle.s360_journal.specs.declared.running.Turn.{Turn}
use Rattle.s360_journal.specs.declared.running.Turn.TheVariants.{Next}
use Rattle.s360_journal.proofs.RunningLemmas.{accepted-None, none-in, refused-Some, turn-again, turn-new, turn-refused}
use Rattle.s360_journal.proofs.session.Session.take_turn.Goals.{else-eq-via-then-eq+else-standing-recorded, else-eq-via-else-eq}
use Rattle.s360_journal.proofs.session.Session.take_turn.Goals as goal

pub returns-then-standing-recorded-clause-taken : goal.returns-then-standing-recorded-clause-taken
returns-then-standing-recorded-clause-taken g c =
    let r : Recorded = c.args.self.now
    in let is : c.args.turn ≡ Next = search rules
    in let ran = c.in_ok-run_next.ensures.event
    in subst (λ (t : Turn). IsTurn (g.S.Stops.stops_of c.args.stops.now) t c.args.reach r c.pause_after.result c.run_next.new.self) (sym is)
    (turn-again (g.S.Stops.stops_of c.args.stops.now) c.args.reach r c.run_next.new.self ran.0 c.pause_after.result ran.1 c.in_ok-run_next.ensures.state (search rules) c.pause_after.ensures)

pub returns-in-Ok-clause-taken : goal.returns-in-Ok-clause-taken
returns-in-Ok-clause-taken g c =
    let r : Recorded = c.args.self.now
    in let e : Event = c.next_event-event.result
    in let is : e ≡ next_event (machine_of (session_of r)) = c.next_event-event.ensures ∙ ap next_event c.machine.ensures.rerun
    in let none : refusal_in (session_of r) e ≡ None = accepted-None (refusal_in (session_of r) e) tt c.advance.result c.in-Ok.is c.advance.ensures.refused
    in let past : c.args.turn ≡ Next → length r.events ≤ r.standing
    = elim c.else-eq.branch [
      | else-eq-via-then-eq+else-standing-recorded w ↦ λ same. omega (arith, w.if-standing-recorded.false, w.standing.ensures.standing, w.recorded.ensures)
      | else-eq-via-else-eq w ↦ λ same. absurd (search rules)
    ]
    in turn-new (g.S.Stops.stops_of c.args.stops.now) c.args.turn c.args.reach r c.advance.new.self e c.pause_after-in-Ok.result (none-in c.args.turn r past) is none c.in-Ok.ensures.ok c.in-Ok.ensures.stands c.pause_after-in-Ok.ensures

pub returns-in-Err : goal.returns-in-Err
returns-in-Err g c =
    let r : Recorded = c.args.self.now
    in let e : Event = c.next_event-event.result
    in let is : e ≡ next_event (machine_of (session_of r)) = c.next_event-event.ensures ∙ ap next_event c.machine.ensures.rerun
    in let other : c.in-Err.refusal ≢ Memory = λ same. search rules
    in let refused : refusal_in (session_of r) e ≡ Some c.in-Err.refusal = refused-Some (refusal_in (session_of r) e) c.advance.result c.in-Err.refusal c.in-Err.is other c.advance.ensures.refused
    in let past : c.args.turn ≡ Next → length r.events ≤ r.standing
    = elim c.else-eq.branch [
      | else-eq-via-then-eq+else-standing-recorded w ↦ λ same. omega (arith, w.if-standing-recorded.false, w.standing.ensures.standing, w.recorded.ensures)
      | else-eq-via-else-eq w ↦ λ same. absurd (search rules)
    ]
    in record { taken = turn-refused (g.S.Stops.stops_of c.args.stops.now) c.args.turn c.args.reach r c.advance.new.self e c.in-Err.refusal (none-in c.args.turn r past) is refused c.in-Err.ensures.err; memory = tt }
