-- A run of calls leaves the start and the limit, and the events that stand by its calls and answers.
use Rattle.std.proofs.Common.{◌≡◌, ◌-◌, ◌++◌, ℕ, List, [], ◌∷◌, refl, ap, sym, ◌∙◌, length, take, arith, Ok, Err, Option, Some, None, Result, slice_get}
use Rattle.std.proofs.Math.Seq.{take-length}
use Rattle.std.proofs.lemmas.List.{length-append, length-take, take_min}
use Rattle.std.specs.declared.alloc.AllocError.{AllocError}
use Rattle.s360_machine.specs.declared.event.Event.{Event}
use Rattle.s360_journal.specs.declared.calls.Call.{Call}
use Rattle.s360_journal.specs.declared.calls.Call.TheVariants.{Forward, Advance, Preview, Run, Back, StepBack, RunBack, BackUntil, BackTo, Again, AgainTo, Withdraw}
use Rattle.s360_journal.specs.declared.calls.Answer.{Answer}
use Rattle.s360_journal.specs.declared.calls.Answer.TheVariants.{Forwarded, Advanced, Previewed, Ran, TookBack, SteppedBack, RanBack, WentBack, RanAgain, WentOn, Withdrew}
use Rattle.std.specs.Prelude.{IfOk, IsOkUnless, MatchOption, OnErr, OnOk, ⊤, min}
use Rattle.s360_machine.specs.declared.refusal.Refusal.{Refusal}
use Rattle.s360_machine.specs.declared.refusal.Refusal.TheVariants.{Memory}
use Rattle.s360_journal.specs.declared.report.Report.{Report}
use Rattle.s360_journal.specs.Reports.{IsReport}
use Rattle.s360_journal.specs.declared.running.Pause.{Pause}
use Rattle.s360_journal.specs.declared.running.Reach.{Reach}
use Rattle.s360_journal.specs.declared.running.Turn.{Turn}
use Rattle.s360_journal.specs.Recorded.{AreRun, Recorded, after_event, after_events, session_of, standing_events, without_last}
use Rattle.s360_journal.proofs.RecordedLemmas.{after-keeps}
use Rattle.s360_journal.specs.Running.{run_in, stops_at}
use Rattle.s360_journal.specs.Standing.{Standing, alteration, last_of, refusal_in}
use Rattle.s360_journal.specs.Calls.{IsAnswer, IsRun, state_after, state_after_all}
use Rattle.s360_journal.specs.declared.session.NothingStands.{NothingStands}
use Rattle.s360_journal.proofs.SessionLemmas.{last-there}

-- calls, one after another, leave what their answers say
pub leads-IsRun : (r t : Recorded) (cs : List Call) (answers : List Answer) → IsRun r cs answers t → t ≡ state_after_all r cs answers
leads-IsRun r t [] [] h = h
leads-IsRun r t (c ∷ cs) (a ∷ answers) h = leads-IsRun h.0 t cs answers h.2 ∙ ap (λ x. state_after_all x cs answers) h.1.1
leads-IsRun r t [] (a ∷ answers) h = absurd h
leads-IsRun r t (c ∷ cs) [] h = absurd h

-- the start stays
start-event : (r : Recorded) (e : Event) → (after_event r e).start ≡ r.start
start-event r e = (after-keeps r e).start

start-events : (r : Recorded) (es : List Event) → (after_events r es).start ≡ r.start
start-events r [] = refl
start-events r (e ∷ es) = start-events (after_event r e) es ∙ start-event r e

start-call : (r : Recorded) (c : Call) (a : Answer) → (state_after r c a).start ≡ r.start
start-call r (Forward e) (Forwarded (Ok report)) = start-event r e
start-call r (Advance e) (Advanced (Ok done)) = start-event r e
start-call r (Run breaks turn reach most) (Ran accepted end) = start-events r (take accepted (run_in (stops_at breaks) turn reach r most).events)
start-call r Back (TookBack (Ok e)) = refl
start-call r StepBack (SteppedBack (Ok done)) = refl
start-call r (RunBack breaks reach most) (RanBack k why) = refl
start-call r (BackUntil breaks) (WentBack k) = refl
start-call r (BackTo n) (WentBack k) = refl
start-call r Again (RanAgain (Ok ran)) = refl
start-call r (AgainTo n) (WentOn (Ok k)) = refl
start-call r (Withdraw k) (Withdrew (Ok done)) = refl
start-call r c a = refl

pub start-calls : (r : Recorded) (cs : List Call) (answers : List Answer) → (state_after_all r cs answers).start ≡ r.start
start-calls r (c ∷ cs) (a ∷ answers) = start-calls (state_after r c a) cs answers ∙ start-call r c a
start-calls r [] answers = refl
start-calls r (c ∷ cs) [] = refl

-- what an offered event is answered
none-accepted : {X : Type 0} (o : Option Refusal) (r : Result X Refusal) (p : X) → r ≡ Ok p → MatchOption o (IsOkUnless r Memory) (λ q. r ≡ Err q) → o ≡ None
none-accepted None r p e h = refl
none-accepted (Some q) r p e h = absurd (let no : Ok p ≡ Err q = sym e ∙ h in cc)

refused : {X : Type 0} (o : Option Refusal) (r : Result X Refusal) (x : Refusal) → r ≡ Err x → MatchOption o (IsOkUnless r Memory) (λ q. r ≡ Err q) → MatchOption o (x ≡ Memory) (λ q. x ≡ q)
refused None r x e h = rw e at h
refused (Some q) r x e h = let same : r ≡ Err q = h in cc

pub IsAnswer-forward : (r t : Recorded) (e : Event) (result : Result Report Refusal) → OnOk result (t ≡ after_event r e) → IfOk result (λ q. IsReport q (alteration (session_of r) e)) → OnErr result (t ≡ r)
    → MatchOption (refusal_in (session_of r) e) (IsOkUnless result Memory) (λ q. result ≡ Err q) → IsAnswer r (Forward e) (Forwarded result) t
IsAnswer-forward r t e (Ok q) ok report err refusal = ((none-accepted (refusal_in (session_of r) e) (Ok q) q refl refusal, report), ok)
IsAnswer-forward r t e (Err x) ok report err refusal = (refused (refusal_in (session_of r) e) (Err x) x refl refusal, err)

pub IsAnswer-advance : (r t : Recorded) (e : Event) (result : Result ⊤ Refusal) → OnOk result (t ≡ after_event r e) → OnErr result (t ≡ r)
    → MatchOption (refusal_in (session_of r) e) (IsOkUnless result Memory) (λ q. result ≡ Err q) → IsAnswer r (Advance e) (Advanced result) t
IsAnswer-advance r t e (Ok q) ok err refusal = (none-accepted (refusal_in (session_of r) e) (Ok q) q refl refusal, ok)
IsAnswer-advance r t e (Err x) ok err refusal = (refused (refusal_in (session_of r) e) (Err x) x refl refusal, err)

pub IsAnswer-preview : (r t : Recorded) (e : Event) (result : Result Report Refusal) → t ≡ r → IfOk result (λ q. IsReport q (alteration (session_of r) e))
    → MatchOption (refusal_in (session_of r) e) (IsOkUnless result Memory) (λ q. result ≡ Err q) → IsAnswer r (Preview e) (Previewed result) t
IsAnswer-preview r t e (Ok q) same report refusal = ((none-accepted (refusal_in (session_of r) e) (Ok q) q refl refusal, report), same)
IsAnswer-preview r t e (Err x) same report refusal = (refused (refusal_in (session_of r) e) (Err x) x refl refusal, same)

pub IsAnswer-back : (r t : Recorded) (result : Result Event NothingStands) → IfOk result (λ e. session_of r ≡ record (session_of t) { events = standing_events t ++ e ∷ [] })
    → OnOk result (t ≡ without_last r) → OnErr result (t ≡ r) → OnErr result (standing_events r ≡ []) → IsAnswer r Back (TookBack result) t
IsAnswer-back r t (Ok e) one last err nothing =
    let parts : standing_events r ≡ standing_events t ++ e ∷ [] = ap (λ (s : Standing). s.events) one
    in let count : length (standing_events t ++ e ∷ []) - 1 ≡ length (standing_events t) = omega (arith, length-append (standing_events t) (e ∷ []))
    in (ap (λ es. last_of es) parts ∙ ap (λ n. slice_get (standing_events t ++ e ∷ []) n) count ∙ last-there (standing_events t) e, last)
IsAnswer-back r t (Err n) one last err nothing = (nothing, err)

-- what a run is answered, with the number of events that came to stand
added : (r t : Recorded) (es : List Event) (before after : ℕ) → before ≡ length (standing_events r) → after ≡ length (standing_events t) → AreRun r es t → after - before ≡ length es
added r t es before after first last h = omega (arith, first, last, ap (λ (x : Standing). length x.events) h.stands, length-append (standing_events r) es)

pub IsAnswer-run : (r t : Recorded) (breaks : List ℕ) (turn : Turn) (reach : Reach) (most before after : ℕ) (result : Result Pause AllocError) → before ≡ length (standing_events r) → after ≡ length (standing_events t)
    → IfOk result (λ end. end ≡ (run_in (stops_at breaks) turn reach r most).why) → OnOk result (AreRun r (run_in (stops_at breaks) turn reach r most).events t)
    → OnErr result ((n : ℕ) × AreRun r (take n (run_in (stops_at breaks) turn reach r most).events) t) → IsAnswer r (Run breaks turn reach most) (Ran (after - before) result) t
IsAnswer-run r t breaks turn reach most before after (Ok end) first last why ok err =
    let es : List Event = (run_in (stops_at breaks) turn reach r most).events
    in let count : after - before ≡ length es = added r t es before after first last ok
    in ((why, count), ok.record_of ∙ ap (λ fs. after_events r fs) (sym (ap (λ k. take k es) count ∙ take-length es)))
IsAnswer-run r t breaks turn reach most before after (Err e) first last why ok err =
    let es : List Event = (run_in (stops_at breaks) turn reach r most).events
    in let count : after - before ≡ min err.0 (length es) = added r t (take err.0 es) before after first last err.1 ∙ length-take err.0 es
    in let same : take err.0 es ≡ take (after - before) es = sym (ap (λ k. take k es) count ∙ take_min err.0 es)
    in (omega (arith, count), err.1.record_of ∙ ap (λ fs. after_events r fs) same)
