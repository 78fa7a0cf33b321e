use Rattle.std.proofs.Common.{rules, ◌≡◌, ◌≢◌, ◌+◌, ◌∙◌, ap, length, length-append, None, Some, [], ◌∷◌}
use Rattle.s360_machine.specs.declared.refusal.Refusal.TheVariants.{Memory}
use Rattle.s360_journal.specs.Standing.{Standing, refusal_in}
use Rattle.s360_journal.proofs.RunningLemmas.{accepted-None, refused-Some}
use Rattle.s360_journal.specs.Recorded.{session_of}
use Rattle.s360_debug.proofs.StandingLemmas.{OnOk-from}
use Rattle.s360_debug.proofs.ReportLemmas.{accepted-text}
use Rattle.s360_debug.proofs.answering.answer_event.Goals as goal

pub returns-in_ok-text-in-Ok-clause-text : goal.returns-in_ok-text-in-Ok-clause-text
returns-in_ok-text-in-Ok-clause-text c =
    let s = session_of c.args.session.now
    in let e = c.args.event
    in let none : refusal_in s e ≡ None = accepted-None (refusal_in s e) c.in-Ok.report c.forward.result c.in-Ok.is c.forward.ensures.refused
    in let count : c.standing.result ≡ length s.events + 1
    = c.standing.ensures.events ∙ ap (λ (t : Standing). length t.events) c.in-Ok.ensures.stands ∙ length-append s.events (e ∷ [])
    in c.in_ok-text-in-Ok.ensures ∙ accepted-text s e c.in-Ok.report c.standing.result none c.in-Ok.ensures.report count

pub returns-in-Err-clause-text : goal.returns-in-Err-clause-text
returns-in-Err-clause-text c =
    let s = session_of c.args.session.now
    in let e = c.args.event
    in let other : c.in-Err.refusal ≢ Memory = λ same. search rules
    in let refused : refusal_in s e ≡ Some c.in-Err.refusal = refused-Some (refusal_in s e) c.forward.result c.in-Err.refusal c.in-Err.is other c.forward.ensures.refused
    in rw refused c.refusal_text.ensures

pub returns-in-Err-clause-state : goal.returns-in-Err-clause-state
returns-in-Err-clause-state c =
    let s = session_of c.args.session.now
    in let e = c.args.event
    in let other : c.in-Err.refusal ≢ Memory = λ same. search rules
    in let refused : refusal_in s e ≡ Some c.in-Err.refusal = refused-Some (refusal_in s e) c.forward.result c.in-Err.refusal c.in-Err.is other c.forward.ensures.refused
    in OnOk-from c.refusal_text.result _ (rw refused c.in-Err.ensures.err)
