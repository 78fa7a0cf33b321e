-- A session as it is seen: what stands of the record, and how the record goes on and back.
use Rattle.std.proofs.Common.{◌≡◌, ◌≤◌, ◌<◌, ◌+◌, ◌-◌, ◌++◌, ◌∙◌, ℕ, List, [], ◌∷◌, Bool, true, false, Some, None, Ok, refl, ap, sym, subst, append_assoc, arith, cond, drop, length, length-append, take, append-nil, slice_get, IfSome}
use Rattle.std.proofs.Math.Nat.{pos_of_ne-zero}
use Rattle.std.proofs.Math.Seq.{drop-append_seam, take-append_seam}
use Rattle.s360_machine.specs.declared.event.Event.{Event}
use Rattle.s360_store.specs.declared.place.Place.{Place}
use Rattle.s360_machine.specs.Change.{Change, places_of_change}
use Rattle.s360_machine.specs.Machine.{Machine, Whole, seen, storage_size}
use Rattle.s360_machine.specs.Refusals.{refusal_of}
use Rattle.s360_machine.specs.Step.{after, step}
use Rattle.s360_journal.specs.Advances.{AreAlike, AreLed, Journaled, LeadsOn, LedFrom, start_of}
use Rattle.s360_journal.specs.Reports.{IsReport}
use Rattle.s360_journal.specs.declared.report.Report.{Report}
use Rattle.s360_journal.specs.History.{AreHistory}
use Rattle.s360_journal.specs.Recorded.{Recorded, after_event, cut_to, next_recorded, rest_of, session_of, standing_events, with_standing, without_last}
use Rattle.s360_journal.specs.Rerun.{AreAccepted, rerun}
use Rattle.s360_journal.specs.Same.{same_event}
use Rattle.s360_journal.specs.Standing.{IsAfter, Standing, alteration, machine_of, refusal_in}
use Rattle.s360_journal.specs.Timelines.{IsNoted, Spare, Timeline, dropped_after, dropped_with, is_first, rest_after}
use Rattle.s360_journal.proofs.ForwardLemmas.{or_full-None, or_full-room}
use Rattle.s360_journal.proofs.HistoryLemmas.{IsStep, IsStep-from}
use Rattle.s360_journal.proofs.WithdrawalLemmas.{size-session}
use Rattle.s360_journal.proofs.SameLemmas.{same_event-Decides}
use Rattle.s360_journal.proofs.SessionLemmas.{AreAccepted-session, alteration-session, machine_of-session, rerun-session, some-session, split-last}

abbrev pub seen_as : Whole → List Event → List Event → List Change → ℕ → ℕ → Recorded
seen_as w st rest xs limit dropped = record { start = start_of w st xs; events = st ++ rest; standing = length st; limit = limit; dropped = dropped }

-- what is within a session that is seen as r
pub record Inside (w : Whole) (st rest : List Event) (xs : List Change) (limit dropped : ℕ) (r : Recorded) : Type 0 where
  pub led : AreHistory w st xs
  pub accepted : AreAccepted (seen w) rest
  pub few : length st + length rest ≤ limit
  pub limited : limit ≤ 10000000
  pub view : seen_as w st rest xs limit dropped ≡ r

pub inside-of : (w : Whole) (st rest : List Event) (xs : List Change) (limit dropped : ℕ) (r : Recorded)
    → AreHistory w st xs × AreAccepted (seen w) rest × (length st + length rest ≤ limit) × (limit ≤ 10000000) → seen_as w st rest xs limit dropped ≡ r → Inside w st rest xs limit dropped r
inside-of w st rest xs limit dropped r h view = record { led = h.0; accepted = h.1; few = h.2; limited = h.3; view = view }

-- ---- what is seen of it

pub standing-of : (w : Whole) (st rest : List Event) (xs : List Change) (limit dropped : ℕ) (r : Recorded) → Inside w st rest xs limit dropped r → standing_events r ≡ st
standing-of w st rest xs limit dropped r i = ap (λ k. standing_events k) (sym i.view) ∙ take-append_seam st rest

pub rest-of : (w : Whole) (st rest : List Event) (xs : List Change) (limit dropped : ℕ) (r : Recorded) → Inside w st rest xs limit dropped r → rest_of r ≡ rest
rest-of w st rest xs limit dropped r i = ap (λ k. rest_of k) (sym i.view) ∙ drop-append_seam st rest

pub session-of : (w : Whole) (st rest : List Event) (xs : List Change) (limit dropped : ℕ) (r : Recorded) → Inside w st rest xs limit dropped r
    → record { start = start_of w st xs; events = st; limit = limit } ≡ session_of r
session-of w st rest xs limit dropped r i =
    ap (λ (es : List Event). record { start = start_of w st xs; events = es; limit = limit }) (sym (take-append_seam st rest)) ∙ ap (λ k. session_of k) i.view

pub machine-of : (w : Whole) (st rest : List Event) (xs : List Change) (limit dropped : ℕ) (r : Recorded) → Inside w st rest xs limit dropped r → seen w ≡ machine_of (session_of r)
machine-of w st rest xs limit dropped r i = machine_of-session w st xs limit (session_of r) i.led (session-of w st rest xs limit dropped r i)

pub size-of : (w : Whole) (st rest : List Event) (xs : List Change) (limit dropped : ℕ) (r : Recorded) → Inside w st rest xs limit dropped r
    → storage_size (machine_of (session_of r)) ≡ storage_size (seen r.start)
size-of w st rest xs limit dropped r i = size-session w st xs limit (session_of r) i.led (session-of w st rest xs limit dropped r i)

-- ---- nothing of the record is refused from the start on

AreAccepted-join : (m : Machine) (es fs : List Event) → AreAccepted m es → AreAccepted (rerun m es) fs → AreAccepted m (es ++ fs)
AreAccepted-join m [] fs h k = k
AreAccepted-join m (e ∷ es) fs h k = (h.0, AreAccepted-join (after m e) es fs h.1 k)

pub accepted-of : (w : Whole) (st rest : List Event) (xs : List Change) (limit dropped : ℕ) (r : Recorded) → Inside w st rest xs limit dropped r → AreAccepted (seen r.start) r.events
accepted-of w st rest xs limit dropped r i =
    subst (λ (k : Recorded). AreAccepted (seen k.start) k.events) i.view
    (AreAccepted-join (seen (start_of w st xs)) st rest (AreAccepted-session w st xs i.led)
    (subst (λ (m : Machine). AreAccepted m rest) (sym (rerun-session w st xs i.led)) i.accepted))

-- nor what stands of it
pub standing-accepted : (w : Whole) (st rest : List Event) (xs : List Change) (limit dropped : ℕ) (r : Recorded) → Inside w st rest xs limit dropped r → AreAccepted (seen r.start) (standing_events r)
standing-accepted w st rest xs limit dropped r i =
    subst (λ (s : Standing). AreAccepted (seen s.start) s.events) (session-of w st rest xs limit dropped r i) (AreAccepted-session w st xs i.led)

pub few-of : (w : Whole) (st rest : List Event) (xs : List Change) (limit dropped : ℕ) (r : Recorded) → Inside w st rest xs limit dropped r → length r.events ≤ r.limit
few-of w st rest xs limit dropped r i =
    omega (arith, i.few, length-append st rest, ap (λ (k : Recorded). length k.events) i.view, ap (λ (k : Recorded). k.limit) i.view)

pub within-of : (w : Whole) (st rest : List Event) (xs : List Change) (limit dropped : ℕ) (r : Recorded) → Inside w st rest xs limit dropped r → r.standing ≤ length r.events
within-of w st rest xs limit dropped r i = omega (arith, length-append st rest, ap (λ (k : Recorded). length k.events) i.view, ap (λ (k : Recorded). k.standing) i.view)

-- the event between those before it and those after it
pub AreAccepted-next : (m : Machine) (es fs : List Event) (e : Event) → AreAccepted m (es ++ e ∷ fs) → step (rerun m es) e ≡ Ok (after (rerun m es) e)
AreAccepted-next m [] fs e h = h.0
AreAccepted-next m (x ∷ es) fs e h = AreAccepted-next (after m x) es fs e h.1

-- an event that is not refused, for which there is room
pub allowed-of : (w : Whole) (st rest : List Event) (xs : List Change) (limit dropped : ℕ) (r : Recorded) (e : Event) → Inside w st rest xs limit dropped r → None ≡ refusal_in (session_of r) e
    → refusal_of (storage_size (seen w)) e ≡ None
allowed-of w st rest xs limit dropped r e i none =
    subst (λ (m : Machine). refusal_of (storage_size m) e ≡ None) (sym (machine-of w st rest xs limit dropped r i)) (or_full-None _ (length (standing_events r)) r.limit (sym none))

pub room-of : (w : Whole) (st rest : List Event) (xs : List Change) (limit dropped : ℕ) (r : Recorded) (e : Event) → Inside w st rest xs limit dropped r → None ≡ refusal_in (session_of r) e
    → length st < limit
room-of w st rest xs limit dropped r e i none =
    let room : length (standing_events r) < r.limit = or_full-room _ (length (standing_events r)) r.limit (sym none)
    in omega (arith, room, ap (λ (es : List Event). length es) (standing-of w st rest xs limit dropped r i), ap (λ (k : Recorded). k.limit) i.view)

-- the changes are as many as the events
pub count-of : (w : Whole) (st rest : List Event) (xs : List Change) (limit dropped : ℕ) (r : Recorded) → Inside w st rest xs limit dropped r → length xs ≡ r.standing
count-of w st rest xs limit dropped r i = sym i.led.1 ∙ ap (λ (k : Recorded). k.standing) i.view

-- where changes stand, events do
pub some-stand : (w : Whole) (st rest : List Event) (xs : List Change) (limit dropped : ℕ) (r : Recorded) → Inside w st rest xs limit dropped r → (length xs ≡ 0 → ⊥) → 0 < length st
some-stand w st rest xs limit dropped r i some = omega (arith, pos_of_ne-zero some, i.led.1)

-- the first of the rest, which is not refused
pub first-there : (rest : List Event) (e : Event) → Some e ≡ slice_get rest 0 → rest ≡ e ∷ drop 1 rest
first-there [] e h = absurd (let no : Some e ≡ None = h in cc)
first-there (f ∷ rest) e h = let same : Some e ≡ Some f = h in let is : f ≡ e = cc in ap (λ g. g ∷ rest) is

pub first-allowed : (w : Whole) (rest : List Event) (e : Event) → AreAccepted (seen w) rest → Some e ≡ slice_get rest 0 → refusal_of (storage_size (seen w)) e ≡ None
first-allowed w rest e h first =
    let all : AreAccepted (seen w) (e ∷ drop 1 rest) = subst (λ es. AreAccepted (seen w) es) (first-there rest e first) h
    in let one : IsStep (seen w) e (after (seen w) e) = IsStep-from (seen w) e (after (seen w) e) all.0
    in one.accepted

-- ---- an event comes to stand

-- the first of the rest is that event
first-is : (rest : List Event) (e : Event) → is_first rest e ≡ true → rest ≡ e ∷ drop 1 rest
first-is [] e h = absurd (cc)
first-is (f ∷ rest) e h = let same : f ≡ e = (same_event-Decides f e).0 h in ap (λ g. g ∷ rest) same

accepted-rest : (w v : Whole) (rest : List Event) (e : Event) → AreAccepted (seen w) (e ∷ rest) → step (seen w) e ≡ Ok (seen v) → AreAccepted (seen v) rest
accepted-rest w v rest e h one =
    let is : IsStep (seen w) e (seen v) = IsStep-from (seen w) e (seen v) one
    in subst (λ (m : Machine). AreAccepted m rest) is.leads h.1

-- the next of the record
pub inside-again : (w v : Whole) (st rest st2 rest2 : List Event) (xs ys : List Change) (limit dropped : ℕ) (r : Recorded) (e : Event) → Inside w st rest xs limit dropped r
    → LeadsOn (record { whole = w; changes = xs }) e (record { whole = v; changes = ys }) → rest ≡ e ∷ rest2 → st2 ≡ st ++ e ∷ []
    → Inside v st2 rest2 ys limit dropped (with_standing r (r.standing + 1))
inside-again w v st rest st2 rest2 xs ys limit dropped r e i leads next more =
    let on = leads.history st i.led
    in let joined : st2 ++ rest2 ≡ st ++ rest = ap (λ es. es ++ rest2) more ∙ append_assoc st (e ∷ []) rest2 ∙ ap (λ es. st ++ es) (sym next)
    in let count : length st2 ≡ length st + 1 = omega (arith, ap (λ (es : List Event). length es) more, length-append st (e ∷ []))
    in record {
      led = rw more on.after;
      accepted = accepted-rest w v rest2 e (rw next at i.accepted) leads.step;
      few = omega (arith, i.few, count, ap (λ (es : List Event). length es) next);
      limited = i.limited;
      view = ap (λ (s : Whole). record { start = s; events = st2 ++ rest2; standing = length st2; limit = limit; dropped = dropped }) (rw more on.start)
          ∙ ap (λ (es : List Event). record { start = start_of w st xs; events = es; standing = length st2; limit = limit; dropped = dropped }) joined
          ∙ ap (λ n. record { start = start_of w st xs; events = st ++ rest; standing = n; limit = limit; dropped = dropped }) count
          ∙ ap (λ (k : Recorded). with_standing k (k.standing + 1)) i.view;
    }

-- an event that is the next comes to stand again
pub after_next : (r : Recorded) (e : Event) → next_recorded r ≡ Some e → after_event r e ≡ with_standing r (r.standing + 1)
after_next r e next =
    let same : same_event e e ≡ true = (same_event-Decides e e).1 refl
    in let first : is_first (rest_of r) e ≡ true = rw next same
    in rw first refl

-- what an event that comes to stand leaves as it was
pub record Keeps (r t : Recorded) : Type 0 where
  pub start : t.start ≡ r.start
  pub limit : t.limit ≡ r.limit
  pub standing : t.standing ≡ r.standing + 1

pub after-keeps : (r : Recorded) (e : Event) → Keeps r (after_event r e)
after-keeps r e =
    let by : (b : Bool) → Keeps r (cond b (with_standing r (r.standing + 1)) (cut_to r (standing_events r ++ e ∷ []) (r.standing + 1)))
    = λ b. elim b as (λ x. Keeps r (cond x (with_standing r (r.standing + 1)) (cut_to r (standing_events r ++ e ∷ []) (r.standing + 1)))) [
      | true ↦ record { start = refl; limit = refl; standing = refl }
      | false ↦ record { start = refl; limit = refl; standing = refl }
    ]
    in by (is_first (rest_of r) e)

-- as it is found there
pub inside-on : (w v : Whole) (st rest st2 rest2 : List Event) (xs ys : List Change) (limit dropped : ℕ) (r : Recorded) (e : Event) → Inside w st rest xs limit dropped r
    → LeadsOn (record { whole = w; changes = xs }) e (record { whole = v; changes = ys }) → Some e ≡ slice_get rest 0 → st2 ≡ st ++ take 1 rest → rest2 ≡ drop 1 rest
    → Inside v st2 rest2 ys limit dropped (with_standing r (r.standing + 1))
inside-on w v st rest st2 rest2 xs ys limit dropped r e i leads first more left =
    let parts : rest ≡ e ∷ drop 1 rest = first-there rest e first
    in let next : rest ≡ e ∷ rest2 = parts ∙ ap (λ es. e ∷ es) (sym left)
    in let one : st2 ≡ st ++ e ∷ [] = more ∙ ap (λ es. st ++ take 1 es) parts
    in inside-again w v st rest st2 rest2 xs ys limit dropped r e i leads next one

-- another, which cuts the rest
inside-cut : (w v : Whole) (st rest st2 rest2 : List Event) (xs ys : List Change) (limit dropped dropped2 : ℕ) (r : Recorded) (e : Event) → Inside w st rest xs limit dropped r
    → LeadsOn (record { whole = w; changes = xs }) e (record { whole = v; changes = ys }) → length st < limit → rest2 ≡ [] → st2 ≡ st ++ e ∷ [] → dropped2 ≡ dropped_with rest dropped
    → Inside v st2 rest2 ys limit dropped2 (cut_to r (standing_events r ++ e ∷ []) (r.standing + 1))
inside-cut w v st rest st2 rest2 xs ys limit dropped dropped2 r e i leads room none more count =
    let on = leads.history st i.led
    in let many : length st2 ≡ length st + 1 = omega (arith, ap (λ (es : List Event). length es) more, length-append st (e ∷ []))
    in let all : st2 ++ rest2 ≡ st ++ e ∷ [] = ap (λ es. st2 ++ es) none ∙ append-nil st2 ∙ more
    in record {
      led = rw more on.after;
      accepted = rw none tt;
      few = omega (arith, room, many, ap (λ (es : List Event). length es) none);
      limited = i.limited;
      view = ap (λ (s : Whole). record { start = s; events = st2 ++ rest2; standing = length st2; limit = limit; dropped = dropped2 }) (rw more on.start)
          ∙ ap (λ (es : List Event). record { start = start_of w st xs; events = es; standing = length st2; limit = limit; dropped = dropped2 }) all
          ∙ ap (λ n. record { start = start_of w st xs; events = st ++ e ∷ []; standing = n; limit = limit; dropped = dropped2 }) many
          ∙ ap (λ n. record { start = start_of w st xs; events = st ++ e ∷ []; standing = length st + 1; limit = limit; dropped = n }) count
          ∙ ap (λ (es : List Event). record { start = start_of w st xs; events = es ++ e ∷ []; standing = length st + 1; limit = limit; dropped = dropped_with rest dropped }) (sym (take-append_seam st rest))
          ∙ ap (λ (es : List Event). record { start = start_of w st xs; events = take (length st) (st ++ rest) ++ e ∷ []; standing = length st + 1; limit = limit; dropped = dropped_with es dropped }) (sym (drop-append_seam st rest))
          ∙ ap (λ (k : Recorded). cut_to k (standing_events k ++ e ∷ []) (k.standing + 1)) i.view;
    }

-- over a timeline of which only what there is memory for was another
pub noted-from : (e : Event) (old new : Timeline) (before after : ℕ) {st rest : List Event} → old.standing ≡ st → old.rest ≡ rest → IsNoted e old before new after
    → IsNoted e (record { standing = st; rest = rest; spare = old.spare }) before new after
noted-from e old new before after standing rest noted = record {
  standing = noted.standing ∙ ap (λ es. es ++ e ∷ []) standing;
  rest = noted.rest ∙ ap (λ es. rest_after es e) rest;
  dropped = noted.dropped ∙ ap (λ es. dropped_after es e before) rest;
}

-- by whether it is the next
pub inside-after : (w v : Whole) (st rest st2 rest2 : List Event) (xs ys : List Change) (limit dropped dropped2 : ℕ) (r : Recorded) (e : Event) (s s2 : Spare) → Inside w st rest xs limit dropped r
    → LeadsOn (record { whole = w; changes = xs }) e (record { whole = v; changes = ys }) → length st < limit
    → IsNoted e (record { standing = st; rest = rest; spare = s }) dropped (record { standing = st2; rest = rest2; spare = s2 }) dropped2
    → Inside v st2 rest2 ys limit dropped2 (after_event r e)
inside-after w v st rest st2 rest2 xs ys limit dropped dropped2 r e s s2 i leads room noted =
    let by : (b : Bool) → is_first rest e ≡ b → rest2 ≡ cond b (drop 1 rest) [] → dropped2 ≡ cond b dropped (dropped_with rest dropped)
    → Inside v st2 rest2 ys limit dropped2 (cond b (with_standing r (r.standing + 1)) (cut_to r (standing_events r ++ e ∷ []) (r.standing + 1)))
    = λ b. elim b as (λ x. is_first rest e ≡ x → rest2 ≡ cond x (drop 1 rest) [] → dropped2 ≡ cond x dropped (dropped_with rest dropped)
    → Inside v st2 rest2 ys limit dropped2 (cond x (with_standing r (r.standing + 1)) (cut_to r (standing_events r ++ e ∷ []) (r.standing + 1)))) [
      | true ↦ λ is left same. rw same (inside-again w v st rest st2 rest2 xs ys limit dropped r e i leads (first-is rest e is ∙ ap (λ es. e ∷ es) (sym left)) noted.standing)
      | false ↦ λ is left same. inside-cut w v st rest st2 rest2 xs ys limit dropped dropped2 r e i leads room left noted.standing same
    ]
    in let first : is_first (rest_of r) e ≡ is_first rest e = ap (λ es. is_first es e) (rest-of w st rest xs limit dropped r i)
    in rw first (by (is_first rest e) refl noted.rest noted.dropped)

-- and what is reported of it
pub reported-of : (w v : Whole) (st rest : List Event) (xs ys : List Change) (limit dropped : ℕ) (r : Recorded) (e : Event) (report : Report) → Inside w st rest xs limit dropped r
    → LeadsOn (record { whole = w; changes = xs }) e (record { whole = v; changes = ys }) → IfSome (slice_get ys (length ys - 1)) (λ x. IsReport report (places_of_change x))
    → IsReport report (alteration (session_of r) e)
reported-of w v st rest xs ys limit dropped r e report i leads told =
    let on = leads.history st i.led
    in let t : Standing = record { start = start_of v (st ++ e ∷ []) ys; events = st ++ e ∷ []; limit = limit }
    in let after : IsAfter t (session_of r) e
    = ap (λ (s : Whole). record { start = s; events = st ++ e ∷ []; limit = limit }) on.start ∙ ap (λ (s : Standing). record s { events = s.events ++ e ∷ [] }) (session-of w st rest xs limit dropped r i)
    in let last : (x : Change) × (slice_get ys (length ys - 1) ≡ Some x) = some-session v (st ++ e ∷ []) ys limit t (session_of r) e on.after refl after
    in subst (λ (ps : List Place). IsReport report ps) (alteration-session v (st ++ e ∷ []) ys last.0 limit t (session_of r) e on.after refl last.1 after) (rw last.1 at told)

-- ---- an event is made and taken back

-- a change stands then
pub some-led : (es : List Event) (j k : Journaled) (e : Event) → AreLed es j → LeadsOn j e k → (0 < length k.changes) × ((fs : List Event) × AreLed fs k)
some-led es j k e h leads =
    let on = leads.history es h
    in (omega (arith, on.after.1, length-append es (e ∷ [])), (es ++ e ∷ [], on.after))

pub alike-back : (j k l : Journaled) (e : Event) → LeadsOn j e k → LedFrom k l → AreAlike j l
alike-back j k l e leads led = λ es h.
    let on = leads.history es h
    in let back = led es e on.after
    in let begin : start_of l.whole es l.changes ≡ start_of j.whole es j.changes = sym back.1.start ∙ on.start
    in (
      back.1.before,
      begin,
      sym (rerun-session l.whole es l.changes back.1.before) ∙ ap (λ (s : Whole). rerun (seen s) es) begin ∙ rerun-session j.whole es j.changes h,
    )

pub inside-alike : (w v : Whole) (st rest : List Event) (xs ys : List Change) (limit dropped : ℕ) (r : Recorded) → Inside w st rest xs limit dropped r
    → AreAlike (record { whole = w; changes = xs }) (record { whole = v; changes = ys }) → Inside v st rest ys limit dropped r
inside-alike w v st rest xs ys limit dropped r i alike =
    let same = alike st i.led
    in record {
      led = same.0;
      accepted = subst (λ (m : Machine). AreAccepted m rest) (sym same.2) i.accepted;
      few = i.few;
      limited = i.limited;
      view = ap (λ (s : Whole). record { start = s; events = st ++ rest; standing = length st; limit = limit; dropped = dropped }) same.1 ∙ i.view;
    }

-- ---- the last event that stands is taken back

taken : (st : List Event) → 0 < length st → (e : Event) × (st ≡ take (length st - 1) st ++ e ∷ []) × (drop (length st - 1) st ≡ e ∷ [])
taken st some =
    let parts : (e : Event) × (st ≡ take (length st - 1) st ++ e ∷ []) = split-last st (length st - 1) (omega (arith, some))
    in let fs : List Event = take (length st - 1) st
    in let count : length st - 1 ≡ length fs = omega (arith, ap (λ (es : List Event). length es) parts.1, length-append fs (parts.0 ∷ []))
    in (parts.0, parts.1, ap (λ es. drop (length st - 1) es) parts.1 ∙ ap (λ n. drop n (fs ++ parts.0 ∷ [])) count ∙ drop-append_seam fs (parts.0 ∷ []))

-- and comes next
pub inside-back : (w v : Whole) (st rest st2 rest2 : List Event) (xs zs : List Change) (limit dropped : ℕ) (r : Recorded) → Inside w st rest xs limit dropped r
    → LedFrom (record { whole = w; changes = xs }) (record { whole = v; changes = zs }) → 0 < length st
    → st2 ≡ take (length st - 1) st → rest2 ≡ drop (length st - 1) st ++ rest
    → Inside v st2 rest2 zs limit dropped (with_standing r (r.standing - 1))
inside-back w v st rest st2 rest2 xs zs limit dropped r i led some left next =
    let last : (e : Event) × (st ≡ take (length st - 1) st ++ e ∷ []) × (drop (length st - 1) st ≡ e ∷ []) = taken st some
    in let e : Event = last.0
    in let parts : st ≡ st2 ++ e ∷ [] = last.1 ∙ ap (λ es. es ++ e ∷ []) (sym left)
    in let others : rest2 ≡ e ∷ rest = next ∙ ap (λ es. es ++ rest) last.2
    in let from = led st2 e (rw parts at i.led)
    in let count : length st ≡ length st2 + 1 = omega (arith, ap (λ (es : List Event). length es) parts, length-append st2 (e ∷ []))
    in let joined : st2 ++ rest2 ≡ st ++ rest = ap (λ es. st2 ++ es) others ∙ sym (append_assoc st2 (e ∷ []) rest) ∙ ap (λ es. es ++ rest) (sym parts)
    in let one : IsStep (seen v) e (seen w) = IsStep-from (seen v) e (seen w) from.0
    in let begin : start_of v st2 zs ≡ start_of w st xs = sym (ap (λ (es : List Event). start_of w es xs) parts ∙ from.1.start)
    in let n : length st2 ≡ length st - 1 = omega (arith, count)
    in record {
      led = from.1.before;
      accepted = rw others (from.0 ∙ ap (λ m. Ok m) (sym one.leads), subst (λ (m : Machine). AreAccepted m rest) (sym one.leads) i.accepted);
      few = omega (arith, i.few, count, ap (λ (es : List Event). length es) others);
      limited = i.limited;
      view = ap (λ (s : Whole). record { start = s; events = st2 ++ rest2; standing = length st2; limit = limit; dropped = dropped }) begin
          ∙ ap (λ (es : List Event). record { start = start_of w st xs; events = es; standing = length st2; limit = limit; dropped = dropped }) joined
          ∙ ap (λ k. record { start = start_of w st xs; events = st ++ rest; standing = k; limit = limit; dropped = dropped }) n
          ∙ ap (λ (k : Recorded). with_standing k (k.standing - 1)) i.view;
    }

-- and leaves the record
pub inside-taken : (w v : Whole) (st rest st2 rest2 : List Event) (xs zs : List Change) (limit dropped dropped2 : ℕ) (r : Recorded) (e : Event) → Inside w st rest xs limit dropped r
    → LedFrom (record { whole = w; changes = xs }) (record { whole = v; changes = zs }) → st ≡ st2 ++ e ∷ [] → rest2 ≡ [] → dropped2 ≡ dropped_with rest dropped
    → Inside v st2 rest2 zs limit dropped2 (without_last r)
inside-taken w v st rest st2 rest2 xs zs limit dropped dropped2 r e i led parts none count =
    let from = led st2 e (rw parts at i.led)
    in let many : length st ≡ length st2 + 1 = omega (arith, ap (λ (es : List Event). length es) parts, length-append st2 (e ∷ []))
    in let n : length st2 ≡ length st - 1 = omega (arith, many)
    in let begin : start_of v st2 zs ≡ start_of w st xs = sym (ap (λ (es : List Event). start_of w es xs) parts ∙ from.1.start)
    in let whole : st ++ rest ≡ st2 ++ (e ∷ rest) = ap (λ es. es ++ rest) parts ∙ append_assoc st2 (e ∷ []) rest
    in let all : st2 ++ rest2 ≡ take (length st - 1) (st ++ rest)
    = ap (λ es. st2 ++ es) none ∙ append-nil st2 ∙ sym (ap (λ es. take (length st - 1) es) whole ∙ ap (λ k. take k (st2 ++ (e ∷ rest))) (sym n) ∙ take-append_seam st2 (e ∷ rest))
    in record {
      led = from.1.before;
      accepted = rw none tt;
      few = omega (arith, i.few, many, ap (λ (es : List Event). length es) none);
      limited = i.limited;
      view = ap (λ (s : Whole). record { start = s; events = st2 ++ rest2; standing = length st2; limit = limit; dropped = dropped2 }) begin
          ∙ ap (λ (es : List Event). record { start = start_of w st xs; events = es; standing = length st2; limit = limit; dropped = dropped2 }) all
          ∙ ap (λ k. record { start = start_of w st xs; events = take (length st - 1) (st ++ rest); standing = k; limit = limit; dropped = dropped2 }) n
          ∙ ap (λ k. record { start = start_of w st xs; events = take (length st - 1) (st ++ rest); standing = length st - 1; limit = limit; dropped = k }) count
          ∙ ap (λ (es : List Event). record { start = start_of w st xs; events = take (length st - 1) (st ++ rest); standing = length st - 1; limit = limit; dropped = dropped_with es dropped }) (sym (drop-append_seam st rest))
          ∙ ap (λ (k : Recorded). without_last k) i.view;
    }
