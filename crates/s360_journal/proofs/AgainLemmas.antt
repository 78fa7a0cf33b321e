-- What was taken back is run again.
use Rattle.std.proofs.Common.{◌≡◌, ◌<◌, ◌≤◌, ◌+◌, ◌++◌, ◌∙◌, ℕ, zero, suc, List, [], ◌∷◌, Option, Some, None, refl, ap, sym, subst, arith, length, take, drop, true, lt-ltb, append-nil, length-take-le, slice_get, unwrap_or, nat_lt}
use Rattle.s360_machine.specs.Machine.{seen}
use Rattle.s360_machine.specs.declared.event.Event.{Event}
use Rattle.s360_machine.specs.Step.{after}
use Rattle.s360_journal.specs.Rerun.{AreAccepted}
use Rattle.s360_journal.specs.Laws.{TurnRunsAgain}
use Rattle.s360_journal.specs.Offers.{with_events}
use Rattle.s360_journal.specs.Returning.{one_back}
use Rattle.s360_journal.specs.Running.{Run, WhereToStop, event_of_turn, events_of_turn, next_event, pause_of_turn, run_by, run_in, run_of}
use Rattle.s360_journal.specs.Standing.{Standing, machine_of, refusal_in}
use Rattle.s360_journal.specs.declared.running.Pause.{Pause}
use Rattle.s360_journal.specs.declared.running.Reach.{Reach}
use Rattle.s360_journal.specs.declared.running.Turn.TheVariants.{Next}
use Rattle.s360_journal.proofs.HistoryLemmas.{IsStep, IsStep-from}
use Rattle.s360_journal.specs.Recorded.{IsRunAgain, Recorded, after_events, next_recorded, rest_of, session_of, standing_events, with_standing}
use Rattle.s360_journal.proofs.RecordedLemmas.{AreAccepted-next, after_next}

-- an event that stands between those before it and those after it
pub record IsThere (es : List Event) (n : ℕ) : Type 0 where
  pub event : Event
  pub next : slice_get (drop n es) 0 ≡ Some event
  pub split : es ≡ take n es ++ event ∷ drop (suc n) es
  pub one : take (suc n) es ≡ take n es ++ event ∷ []

pub there : (n : ℕ) (es : List Event) → n < length es → IsThere es n
there n [] h = absurd (omega (arith, h))
there zero (x ∷ es) h = record { event = x; next = refl; split = refl; one = refl }
there (suc n) (x ∷ es) h =
    let one : IsThere es n = there n es (omega (arith, h))
    in record { event = one.event; next = one.next; split = ap (λ l. x ∷ l) one.split; one = ap (λ l. x ∷ l) one.one }

allowed : (r : Recorded) (one : IsThere r.events r.standing) → AreAccepted (seen r.start) r.events → length r.events ≤ r.limit → r.standing < length r.events
    → refusal_in (session_of r) one.event ≡ None
allowed r one accepted few less =
    let all : AreAccepted (seen r.start) (standing_events r ++ one.event ∷ drop (suc r.standing) r.events) = subst (λ es. AreAccepted (seen r.start) es) one.split accepted
    in let step : IsStep (machine_of (session_of r)) one.event (after (machine_of (session_of r)) one.event)
    = IsStep-from (machine_of (session_of r)) one.event (after (machine_of (session_of r)) one.event) (AreAccepted-next (seen r.start) (standing_events r) (drop (suc r.standing) r.events) one.event all)
    in let count : length (standing_events r) ≡ r.standing = length-take-le r.standing r.events (omega (arith, less))
    in let room : nat_lt (length (standing_events r)) r.limit ≡ true = lt-ltb (length (standing_events r)) r.limit (omega (arith, count, less, few))
    in rw step.accepted (rw room refl)

-- the next event of an accepted record
pub runs-again : (r t : Recorded) → AreAccepted (seen r.start) r.events → length r.events ≤ r.limit → r.standing < length r.events → t ≡ with_standing r (r.standing + 1)
    → (e : Event) × IsRunAgain r t e
runs-again r t accepted few less is =
    let one : IsThere r.events r.standing = there r.standing r.events less
    in let more : r.standing + 1 ≡ suc r.standing = omega arith
    in (
      one.event,
      record {
        next = one.next;
        accepted = allowed r one accepted few less;
        state = is ∙ sym (after_next r one.event one.next);
        stands = ap (λ (k : Recorded). session_of k) is ∙ ap (λ n. record (session_of r) { events = take n r.events }) more ∙ ap (λ (es : List Event). record (session_of r) { events = es }) one.one;
      },
    )

-- and that event alone
none-dropped : (n : ℕ) (e : Event) → slice_get (drop n []) 0 ≡ Some e → ⊥
none-dropped zero e h = cc
none-dropped (suc n) e h = cc

next-less : (n : ℕ) (es : List Event) (e : Event) → slice_get (drop n es) 0 ≡ Some e → n < length es
next-less n [] e h = absurd (none-dropped n e h)
next-less zero (x ∷ es) e h = omega arith
next-less (suc n) (x ∷ es) e h = omega (arith, next-less n es e h)

pub runs-that : (r t : Recorded) (e : Event) → AreAccepted (seen r.start) r.events → length r.events ≤ r.limit → next_recorded r ≡ Some e → t ≡ with_standing r (r.standing + 1) → IsRunAgain r t e
runs-that r t e accepted few next is =
    let again = runs-again r t accepted few (next-less r.standing r.events e next) is
    in let both : Some again.0 ≡ Some e = sym again.1.next ∙ next
    in let same : again.0 ≡ e = cc
    in subst (λ x. IsRunAgain r t x) same again.1

-- one turn alone
run_by-alone : (es : List Event) (pause : Option Pause) (others : Run) → others.events ≡ [] → (run_by es pause others).events ≡ es
run_by-alone es (Some why) others none = refl
run_by-alone es None others none = ap (λ l. es ++ l) none ∙ append-nil es

runs-one : (stops : WhereToStop) (reach : Reach) (r t : Recorded) (e : Event) → IsRunAgain r t e → (run_in stops Next reach r 1).events ≡ e ∷ []
unfolding run_of events_of_turn
runs-one stops reach r t e ran =
    let s : Standing = session_of r
    in let first : event_of_turn s (rest_of r) ≡ e = ap (λ o. unwrap_or o (next_event (machine_of s))) ran.next
    in let events : events_of_turn s (rest_of r) ≡ e ∷ [] = rw (first, ran.accepted) refl
    in run_by-alone (events_of_turn s (rest_of r)) (pause_of_turn stops reach s (rest_of r)) (run_of stops reach (with_events s (events_of_turn s (rest_of r))) (drop 1 (rest_of r)) 0) refl ∙ events

pub TurnRunsAgain-holds : TurnRunsAgain
TurnRunsAgain-holds stops reach r accepted few some within =
    let before : Recorded = one_back r
    in let count : before.standing + 1 ≡ r.standing = omega (arith, some)
    in let again = runs-again before r accepted few (omega (arith, some, within)) (ap (λ n. with_standing r n) (sym count))
    in ap (λ es. after_events before es) (runs-one stops reach before r again.0 again.1) ∙ sym again.1.state
