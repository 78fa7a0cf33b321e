-- A run, turn by turn.
use Rattle.std.proofs.Common.{◌≡◌, ◌≢◌, ◌≤◌, ◌<◌, ◌+◌, ◌-◌, ◌++◌, ◌∷◌, ◌∙◌, [], ℕ, zero, suc, List, Option, Some, None, is_some, Bool, true, false, not, nat_eq, refl, sym, ap, subst, append_assoc, arith, drop, length, length-append, take, Ok, Err, IsOkUnless, ◌↔◌, IsTrue, MatchOption, OnErr, Result, slice_get, eq-eqb, eqb-true, true≢false, append-nil, length-take}
use Rattle.std.specs.Cmp.{both_ways}
use Rattle.std.specs.Option.{option_map, option_map_or, unwrap_or}
use Rattle.std.proofs.Math.Seq.{take-append_seam}
use Rattle.s360_store.specs.declared.place.Place.{Place}
use Rattle.s360_machine.specs.EventKinds.{kind_of_event}
use Rattle.s360_machine.specs.declared.event.Event.{Event}
use Rattle.s360_machine.specs.declared.event.Event.TheVariants.{Cpu, Channel, Tick, Key, Patch as patch}
use Rattle.s360_machine.specs.declared.event_kind.EventKind.TheVariants.{Cpu as cpu_kind}
use Rattle.s360_machine.specs.declared.refusal.Refusal.{Refusal}
use Rattle.s360_machine.specs.declared.refusal.Refusal.TheVariants.{Memory}
use Rattle.s360_journal.specs.Recorded.{AreRun, IsRunAgain, Recorded, after_event, after_events, rest_of, session_of, standing_events, with_standing}
use Rattle.s360_journal.specs.Returning.{is_cpu_last}
use Rattle.s360_journal.specs.Standing.{IsAfter, Standing, machine_of, refusal_in, alteration}
use Rattle.s360_journal.specs.declared.running.Pause.{Pause}
use Rattle.s360_journal.specs.declared.running.Pause.TheVariants.{Refused, Done}
use Rattle.s360_journal.specs.declared.running.Reach.{Reach}
use Rattle.s360_journal.specs.declared.running.Turn.{Turn}
use Rattle.s360_journal.specs.declared.running.Turn.TheVariants.{New, Next}
use Rattle.s360_journal.specs.Offers.{unless_refused, with_events}
use Rattle.s360_journal.specs.Running.{IsAccepted, IsTurn, Run, WhereToStop, event_of_turn, events_of_turn, is_cpu, is_end, is_idle, is_reached, next_event, pause_after, pause_of_turn, pause_with, refused_or, rest_in, run_by, run_in, run_of}
use Rattle.s360_journal.specs.Timelines.{is_first}
use Rattle.s360_journal.proofs.SessionLemmas.{last-there}

pub with_events-none : (s : Standing) → with_events s [] ≡ s
with_events-none s = ap (λ (es : List Event). record s { events = es }) (append-nil s.events)

with_events-twice : (s : Standing) (es fs : List Event) → with_events (with_events s es) fs ≡ with_events s (es ++ fs)
with_events-twice s es fs = ap (λ (gs : List Event). record s { events = gs }) (append_assoc s.events es fs)

-- ---- events that were run one after another

pub AreRun-none : (r : Recorded) → AreRun r [] r
AreRun-none r = record { record_of = refl; stands = sym (with_events-none (session_of r)) }

pub AreRun-one : (r t : Recorded) (e : Event) → t ≡ after_event r e → IsAfter (session_of t) (session_of r) e → AreRun r (e ∷ []) t
AreRun-one r t e is stands = record { record_of = is; stands = stands }

after_events-join : (r : Recorded) (es fs : List Event) → after_events r (es ++ fs) ≡ after_events (after_events r es) fs
after_events-join r [] fs = refl
after_events-join r (e ∷ es) fs = after_events-join (after_event r e) es fs

pub AreRun-more : (r s t : Recorded) (es fs : List Event) → AreRun r es s → AreRun s fs t → AreRun r (es ++ fs) t
AreRun-more r s t es fs a b = record {
  record_of = b.record_of ∙ ap (λ k. after_events k fs) a.record_of ∙ sym (after_events-join r es fs);
  stands = b.stands ∙ ap (λ (k : Standing). with_events k fs) a.stands ∙ with_events-twice (session_of r) es fs;
}

-- an event that is accepted is not refused
pub accepted-None : {X : Type 0} (o : Option Refusal) (x : X) (result : Result X Refusal) → result ≡ Ok x
    → MatchOption o (IsOkUnless result Memory) (λ r. result ≡ Err r) → o ≡ None
accepted-None None x result e h = refl
accepted-None (Some r) x result e h = absurd (cc)

-- ---- one turn

pub refused-Some : {X : Type 0} (o : Option Refusal) (result : Result X Refusal) (r : Refusal) → result ≡ Err r → r ≢ Memory
    → MatchOption o (IsOkUnless result Memory) (λ q. result ≡ Err q) → o ≡ Some r
refused-Some None (Ok x) r is not h = absurd (cc)
refused-Some None (Err q) r is not h = absurd (not (cc))
refused-Some (Some q) result r is not h = let same : q ≡ r = cc in ap (λ (x : Refusal). Some x) same

-- what is left of the record then
drop-past : (n : ℕ) (es : List Event) → length es ≤ n → drop n es ≡ []
drop-past zero [] h = refl
drop-past (suc n) [] h = refl
drop-past zero (e ∷ es) h = absurd (omega (arith, h))
drop-past (suc n) (e ∷ es) h = drop-past n es (omega (arith, h))

drop-more : (n : ℕ) (es : List Event) → drop (n + 1) es ≡ drop 1 (drop n es)
drop-more zero es = refl
drop-more (suc n) [] = let more : suc n + 1 ≡ suc (n + 1) = omega arith in ap (λ k. drop k []) more
drop-more (suc n) (e ∷ es) = let more : suc n + 1 ≡ suc (n + 1) = omega arith in ap (λ k. drop k (e ∷ es)) more ∙ drop-more n es

length-drop : (n : ℕ) (es : List Event) → length (drop n es) ≡ length es - n
length-drop zero es = omega arith
length-drop (suc n) [] = omega arith
length-drop (suc n) (e ∷ es) = omega (arith, length-drop n es)

rest-after : (r : Recorded) (e : Event) → rest_of r ≡ [] → rest_of (after_event r e) ≡ []
rest-after r e none =
    let first : is_first (rest_of r) e ≡ false = rw none refl
    in let count : length (standing_events r ++ e ∷ []) ≤ r.standing + 1 = omega (arith, length-append (standing_events r) (e ∷ []), length-take r.standing r.events)
    in rw first (drop-past (r.standing + 1) (standing_events r ++ e ∷ []) count)

-- an event was accepted
turn-accepted : (stops : WhereToStop) (turn : Turn) (reach : Reach) (r t : Recorded) (pause : Option Pause) (rest : List Event) (e : Event) → rest_in turn r ≡ rest → event_of_turn (session_of r) rest ≡ e
    → refusal_in (session_of r) e ≡ None → t ≡ after_event r e → IsAfter (session_of t) (session_of r) e → pause ≡ pause_after stops reach (session_of r) rest e → rest_in turn t ≡ drop 1 rest
    → IsTurn stops turn reach r pause t
unfolding pause_of_turn events_of_turn
turn-accepted stops turn reach r t pause rest e left first accepted state stands why next =
    let s : Standing = session_of r
    in record {
      why = why ∙ ap (λ o. refused_or o (pause_after stops reach s rest e)) (sym accepted)
          ∙ ap (λ x. refused_or (refusal_in s x) (pause_after stops reach s rest x)) (sym first)
          ∙ ap (λ es. pause_of_turn stops reach s es) (sym left);
      ran = subst (λ es. AreRun r es t)
          (ap (λ o. unless_refused o e) (sym accepted) ∙ ap (λ x. unless_refused (refusal_in s x) x) (sym first) ∙ ap (λ es. events_of_turn s es) (sym left)) (AreRun-one r t e state stands);
      rest = next ∙ ap (λ es. drop 1 es) (sym left);
    }

-- the next of the record was run again
pub turn-again : (stops : WhereToStop) (reach : Reach) (r t : Recorded) (e : Event) (pause : Option Pause) → IsRunAgain r t e → t ≡ with_standing r (r.standing + 1) → r.standing < length r.events
    → ((s : Standing) (rest : List Event) (f : Event) → IsAccepted t s rest f true → pause ≡ pause_after stops reach s rest f) → IsTurn stops Next reach r pause t
turn-again stops reach r t e pause ran is less why =
    let first : event_of_turn (session_of r) (rest_of r) ≡ e = ap (λ o. unwrap_or o (next_event (machine_of (session_of r)))) ran.next
    in let accepted : IsAccepted t (session_of r) (rest_of r) e true = record {
      stands = ran.stands;
      met = ap (λ o. is_some o) (sym ran.next);
      ended = both_ways (nat_eq t.standing (length t.events)) (nat_eq (length (rest_of r)) 1)
          (λ h. eq-eqb (length (rest_of r)) 1 (omega (arith, length-drop r.standing r.events, eqb-true t.standing (length t.events) h, ap (λ (k : Recorded). k.standing) is, ap (λ (k : Recorded). length k.events) is)))
          (λ h. eq-eqb t.standing (length t.events) (omega (arith, length-drop r.standing r.events, eqb-true (length (rest_of r)) 1 h, ap (λ (k : Recorded). k.standing) is, ap (λ (k : Recorded). length k.events) is, less)));
    }
    in turn-accepted stops Next reach r t pause (rest_of r) e refl first ran.accepted ran.state ran.stands (why (session_of r) (rest_of r) e accepted)
    (ap (λ (k : Recorded). rest_of k) is ∙ drop-more r.standing r.events)

-- nothing of the record is taken
pub none-in : (turn : Turn) (r : Recorded) → (turn ≡ Next → length r.events ≤ r.standing) → rest_in turn r ≡ []
none-in New r h = refl
none-in Next r h = drop-past r.standing r.events (h refl)

none-after : (turn : Turn) (r : Recorded) (e : Event) → rest_in turn r ≡ [] → rest_in turn (after_event r e) ≡ []
none-after New r e h = refl
none-after Next r e h = rest-after r e h

-- a new event was run
pub turn-new : (stops : WhereToStop) (turn : Turn) (reach : Reach) (r t : Recorded) (e : Event) (pause : Option Pause) → rest_in turn r ≡ [] → e ≡ next_event (machine_of (session_of r))
    → refusal_in (session_of r) e ≡ None → t ≡ after_event r e → IsAfter (session_of t) (session_of r) e
    → ((s : Standing) (rest : List Event) (f : Event) → IsAccepted t s rest f false → pause ≡ pause_after stops reach s rest f) → IsTurn stops turn reach r pause t
turn-new stops turn reach r t e pause none is accepted state stands why =
    turn-accepted stops turn reach r t pause [] e none (sym is) accepted state stands (why (session_of r) [] e (record { stands = stands; met = refl; ended = refl }))
    (ap (λ (k : Recorded). rest_in turn k) state ∙ none-after turn r e none)

-- or refused
pub turn-refused : (stops : WhereToStop) (turn : Turn) (reach : Reach) (r t : Recorded) (e : Event) (refusal : Refusal) → rest_in turn r ≡ [] → e ≡ next_event (machine_of (session_of r))
    → refusal_in (session_of r) e ≡ Some refusal → t ≡ r → IsTurn stops turn reach r (Some (Refused refusal)) t
unfolding pause_of_turn events_of_turn
turn-refused stops turn reach r t e refusal none is refused same =
    let s : Standing = session_of r
    in let no : refusal_in s (event_of_turn s []) ≡ Some refusal = ap (λ x. refusal_in s x) (sym is) ∙ refused
    in record {
      why = ap (λ o. refused_or o (pause_after stops reach s [] (event_of_turn s []))) (sym no) ∙ ap (λ es. pause_of_turn stops reach s es) (sym none);
      ran = subst (λ es. AreRun r es t) (ap (λ o. unless_refused o (event_of_turn s [])) (sym no) ∙ ap (λ es. events_of_turn s es) (sym none)) (subst (λ x. AreRun r [] x) (sym same) (AreRun-none r));
      rest = ap (λ (k : Recorded). rest_in turn k) same ∙ none ∙ ap (λ es. drop 1 es) (sym none);
    }

-- ---- why the machine pauses

idle-new : (idle : Bool) (ps : List Place) → IsTrue idle ↔ (ps ≡ []) → idle ≡ is_idle [] ps
idle-new true [] is = refl
idle-new false [] is = absurd (true≢false (sym (is.1 refl)))
idle-new true (p ∷ ps) is = absurd (let wrong : p ∷ ps ≡ [] = is.0 refl in cc)
idle-new false (p ∷ ps) is = refl

none-there : (rest : List Event) → false ≡ is_some (slice_get rest 0) → rest ≡ []
none-there [] h = refl
none-there (e ∷ rest) h = absurd (true≢false (sym h))

idle-again : (rest : List Event) (ps : List Place) → true ≡ is_some (slice_get rest 0) → is_idle rest ps ≡ false
idle-again [] ps h = absurd (true≢false h)
idle-again (e ∷ rest) ps h = refl

-- where the event was recorded, or altered something
pub idle-recorded : (again : Bool) (rest : List Event) (ps : List Place) → again ≡ true → again ≡ is_some (slice_get rest 0) → is_idle rest ps ≡ false
idle-recorded again rest ps is met = idle-again rest ps (sym is ∙ met)

pub idle-none : (again idle : Bool) (rest : List Event) (ps : List Place) → again ≡ is_some (slice_get rest 0) → IsTrue idle ↔ (ps ≡ []) → idle ≡ false → is_idle rest ps ≡ false
idle-none true idle rest ps met is h = idle-again rest ps met
idle-none false idle rest ps met is h = rw (none-there rest met) (sym (idle-new idle ps is) ∙ h)

pub idle-some : (again idle : Bool) (rest : List Event) (ps : List Place) → again ≡ false → again ≡ is_some (slice_get rest 0) → IsTrue idle ↔ (ps ≡ []) → idle ≡ true → is_idle rest ps ≡ true
idle-some true idle rest ps new met is h = absurd (true≢false new)
idle-some false idle rest ps new met is h = rw (none-there rest met) (sym (idle-new idle ps is) ∙ h)

pub pause-of : (idle altered reached ended : Bool) (stops : WhereToStop) (reach : Reach) (s : Standing) (rest : List Event) (e : Event) → is_idle rest (alteration s e) ≡ idle → stops.altered (with_events s (e ∷ [])) ≡ altered
    → is_reached stops reach (with_events s (e ∷ [])) e ≡ reached → is_end rest ≡ ended → pause_with idle altered reached ended reach ≡ pause_after stops reach s rest e
pause-of idle altered reached ended stops reach s rest e h i k l =
    ap (λ x. pause_with x altered reached ended reach) (sym h)
    ∙ ap (λ x. pause_with (is_idle rest (alteration s e)) x reached ended reach) (sym i)
    ∙ ap (λ x. pause_with (is_idle rest (alteration s e)) (stops.altered (with_events s (e ∷ []))) x ended reach) (sym k)
    ∙ ap (λ x. pause_with (is_idle rest (alteration s e)) (stops.altered (with_events s (e ∷ []))) (is_reached stops reach (with_events s (e ∷ [])) e) x reach) (sym l)

-- the last event, as its kind alone
kind-cpu : (e : Event) → kind_of_event e ≡ cpu_kind → is_cpu e ≡ true
kind-cpu Cpu h = refl
kind-cpu e h = absurd (cc)

kind-other : (e : Event) → kind_of_event e ≢ cpu_kind → is_cpu e ≡ false
kind-other Cpu h = absurd (h refl)
kind-other e h = refl

pub last-cpu : (o : Option Event) → option_map kind_of_event o ≡ Some cpu_kind → option_map_or is_cpu o false ≡ true
last-cpu None h = absurd (cc)
last-cpu (Some e) h = let same : kind_of_event e ≡ cpu_kind = cc in kind-cpu e same

pub last-other : (o : Option Event) → option_map kind_of_event o ≢ Some cpu_kind → option_map_or is_cpu o false ≡ false
last-other None h = refl
last-other (Some e) h = kind-other e (λ same. h (ap (λ k. Some k) same))

pub last-after : (now : Recorded) (s : Standing) (e : Event) → IsAfter (session_of now) s e → is_cpu_last (standing_events now) ≡ is_cpu e
last-after now s e is =
    let events : standing_events now ≡ s.events ++ e ∷ [] = ap (λ (x : Standing). x.events) is
    in let place : length (s.events ++ e ∷ []) - 1 ≡ length s.events = omega (arith, length-append s.events (e ∷ []))
    in ap (λ l. is_cpu_last l) events ∙ ap (λ n. option_map_or is_cpu (slice_get (s.events ++ e ∷ []) n) false) place
    ∙ ap (λ o. option_map_or is_cpu o false) (last-there s.events e)

-- ---- a run

-- the turns of a run that are done, and that so many are left
pub record IsRunning (stops : WhereToStop) (turn : Turn) (reach : Reach) (start now : Recorded) (most left : ℕ) : Type 0 where
  pub done : List Event
  pub ran : AreRun start done now
  pub events : (run_in stops turn reach start most).events ≡ done ++ (run_in stops turn reach now left).events
  pub why : (run_in stops turn reach start most).why ≡ (run_in stops turn reach now left).why

pub IsRunning-start : (stops : WhereToStop) (turn : Turn) (reach : Reach) (r : Recorded) (most : ℕ) → IsRunning stops turn reach r r most most
IsRunning-start stops turn reach r most = record { done = []; ran = AreRun-none r; events = refl; why = refl }

-- a turn more, with which the run does not end
pub IsRunning-more : (stops : WhereToStop) (turn : Turn) (reach : Reach) (start now next : Recorded) (most n m : ℕ) → n ≡ m + 1 → IsRunning stops turn reach start now most n
    → IsTurn stops turn reach now None next → IsRunning stops turn reach start next most m
unfolding run_of
IsRunning-more stops turn reach start now next most n m count r t =
    let s : Standing = session_of now
    in let rest : List Event = rest_in turn now
    in let left : n ≡ suc m = omega arith
    in let events : (run_in stops turn reach start most).events ≡ r.done ++ (run_of stops reach s rest (suc m)).events = rw left at r.events
    in let why : (run_in stops turn reach start most).why ≡ (run_of stops reach s rest (suc m)).why = rw left at r.why
    in let later : run_of stops reach (with_events s (events_of_turn s rest)) (drop 1 rest) m ≡ run_in stops turn reach next m
    = ap (λ (x : Standing). run_of stops reach x (drop 1 rest) m) (sym t.ran.stands) ∙ ap (λ es. run_of stops reach (session_of next) es m) (sym t.rest)
    in let on : run_of stops reach s rest (suc m) ≡ run_by (events_of_turn s rest) None (run_in stops turn reach next m)
    = ap (λ x. run_by (events_of_turn s rest) x (run_of stops reach (with_events s (events_of_turn s rest)) (drop 1 rest) m)) (sym t.why)
    ∙ ap (λ x. run_by (events_of_turn s rest) None x) later
    in record {
      done = r.done ++ events_of_turn s rest;
      ran = AreRun-more start now next r.done (events_of_turn s rest) r.ran t.ran;
      events = events ∙ ap (λ (x : Run). r.done ++ x.events) on ∙ sym (append_assoc r.done (events_of_turn s rest) (run_in stops turn reach next m).events);
      why = why ∙ ap (λ (x : Run). x.why) on;
    }

-- what a run comes to: why it ends, and what was run
pub record IsRunOf (stops : WhereToStop) (turn : Turn) (reach : Reach) (start : Recorded) (most : ℕ) (end : Pause) (now : Recorded) : Type 0 where
  pub why : end ≡ (run_in stops turn reach start most).why
  pub ran : AreRun start (run_in stops turn reach start most).events now

-- a turn more, with which the run ends
pub IsRunning-ended : (stops : WhereToStop) (turn : Turn) (reach : Reach) (start now next : Recorded) (most n m : ℕ) (why : Pause) → n ≡ m + 1 → IsRunning stops turn reach start now most n
    → IsTurn stops turn reach now (Some why) next → IsRunOf stops turn reach start most why next
unfolding run_of
IsRunning-ended stops turn reach start now next most n m why count r t =
    let s : Standing = session_of now
    in let rest : List Event = rest_in turn now
    in let left : n ≡ suc m = omega arith
    in let events : (run_in stops turn reach start most).events ≡ r.done ++ (run_of stops reach s rest (suc m)).events = rw left at r.events
    in let reason : (run_in stops turn reach start most).why ≡ (run_of stops reach s rest (suc m)).why = rw left at r.why
    in let last : run_of stops reach s rest (suc m) ≡ record { events = events_of_turn s rest; why = why }
    = ap (λ x. run_by (events_of_turn s rest) x (run_of stops reach (with_events s (events_of_turn s rest)) (drop 1 rest) m)) (sym t.why)
    in record {
      why = sym (reason ∙ ap (λ (x : Run). x.why) last);
      ran = subst (λ es. AreRun start es next) (sym (events ∙ ap (λ (x : Run). r.done ++ x.events) last)) (AreRun-more start now next r.done (events_of_turn s rest) r.ran t.ran);
    }

-- no turn is left
pub IsRunning-all : (stops : WhereToStop) (turn : Turn) (reach : Reach) (start now : Recorded) (most n : ℕ) → n ≡ 0 → IsRunning stops turn reach start now most n → IsRunOf stops turn reach start most Done now
unfolding run_of
IsRunning-all stops turn reach start now most n none r =
    let events : (run_in stops turn reach start most).events ≡ r.done ++ [] = rw none at r.events
    in let reason : (run_in stops turn reach start most).why ≡ Done = rw none at r.why
    in record { why = sym reason; ran = subst (λ es. AreRun start es now) (sym (events ∙ append-nil r.done)) r.ran }

-- some first ones of the events were run
pub IsRunning-part : (stops : WhereToStop) (turn : Turn) (reach : Reach) (start now : Recorded) (most left : ℕ) → IsRunning stops turn reach start now most left
    → (n : ℕ) × AreRun start (take n (run_in stops turn reach start most).events) now
IsRunning-part stops turn reach start now most left r = (
  length r.done,
  subst (λ es. AreRun start es now) (sym (ap (take (length r.done)) r.events ∙ take-append_seam r.done (run_in stops turn reach now left).events)) r.ran,
)

-- what holds holds after an error
pub OnErr-from : {X E : Type 0} (r : Result X E) (P : Type 0) → P → OnErr r P
OnErr-from (Ok x) P h = tt
OnErr-from (Err e) P h = h
