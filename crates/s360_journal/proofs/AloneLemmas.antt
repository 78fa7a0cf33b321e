-- A record of which all stands, as changes are taken back and run again.
use Rattle.std.proofs.Common.{rules, tests, ◌≡◌, ◌≤◌, ◌<◌, ◌+◌, ◌-◌, ◌++◌, ◌∙◌, ℕ, zero, suc, List, [], ◌∷◌, true, refl, ap, sym, subst, arith, drop, length, length-append, take, append-nil, length-take-le, Err, Ok, OnErr, OnOk, Result}
use Rattle.std.proofs.Math.Seq.{drop-append_seam, take-length}
use Rattle.s360_machine.specs.declared.event.Event.{Event}
use Rattle.s360_journal.specs.Recorded.{IsAlone, Recorded, StaysAlone, after_event, cut_to, rest_of, session_of, standing_events, with_standing, without_change, without_last}
use Rattle.s360_journal.specs.Standing.{Standing}
use Rattle.s360_journal.specs.Timelines.{dropped_with}
use Rattle.s360_journal.specs.Withdrawals.{is_standing, without_event}
use Rattle.s360_journal.specs.declared.session.NothingStands.{NothingStands}

pub alone-standing : (r : Recorded) → IsAlone r → standing_events r ≡ r.events
alone-standing r alone = ap (λ n. take n r.events) alone ∙ take-length r.events

pub alone-rest : (r : Recorded) → IsAlone r → rest_of r ≡ []
alone-rest r alone = ap (λ n. drop n r.events) alone ∙ ap (λ es. drop (length r.events) es) (sym (append-nil r.events)) ∙ drop-append_seam r.events []

pub alone-count : (r : Recorded) → IsAlone r → length (standing_events r) ≡ r.standing
alone-count r alone = ap length (alone-standing r alone) ∙ sym alone

pub StaysAlone-same : (r : Recorded) → IsAlone r → StaysAlone r r
StaysAlone-same r alone = record { alone = alone; dropped = refl }

pub StaysAlone-more : (r s t : Recorded) → StaysAlone r s → StaysAlone s t → StaysAlone r t
StaysAlone-more r s t a b = record { alone = b.alone; dropped = b.dropped ∙ a.dropped }

pub StaysAlone-back : (r t : Recorded) → IsAlone r → t ≡ without_last r → StaysAlone r t
StaysAlone-back r t alone is = record {
  alone = ap (λ (k : Recorded). k.standing) is ∙ sym (ap (λ (k : Recorded). length k.events) is ∙ length-take-le (r.standing - 1) r.events (omega (arith, alone)));
  dropped = ap (λ (k : Recorded). k.dropped) is ∙ ap (λ es. dropped_with es r.dropped) (alone-rest r alone);
}

pub StaysAlone-on : (r t : Recorded) (e : Event) → IsAlone r → t ≡ after_event r e → StaysAlone r t
StaysAlone-on r t e alone is =
    let other : after_event r e ≡ cut_to r (standing_events r ++ e ∷ []) (r.standing + 1) = rw (alone-rest r alone) refl
    in let cut : t ≡ cut_to r (standing_events r ++ e ∷ []) (r.standing + 1) = is ∙ other
    in record {
      alone = ap (λ (k : Recorded). k.standing) cut ∙ omega (arith, alone-count r alone, length-append (standing_events r) (e ∷ []), ap (λ (k : Recorded). length k.events) cut);
      dropped = ap (λ (k : Recorded). k.dropped) cut ∙ ap (λ es. dropped_with es r.dropped) (alone-rest r alone);
    }

-- a step back, whatever it answers
pub StaysAlone-taken : (r t : Recorded) (result : Result Event NothingStands) → IsAlone r → OnOk result (t ≡ without_last r) → OnErr result (t ≡ r) → StaysAlone r t
StaysAlone-taken r t (Ok e) alone ok err = StaysAlone-back r t alone ok
StaysAlone-taken r t (Err n) alone ok err = subst (λ k. StaysAlone r k) (sym err) (StaysAlone-same r alone)

-- a change of this number stands
pub standing-within : (k : ℕ) (es : List Event) → is_standing k es ≡ true → (0 < k) × (k ≤ length es)
standing-within k es h = (search (tests, rules), search (tests, rules))

-- what does not stand is dropped
pub alone-cut : (r t : Recorded) → r.standing ≤ length r.events → t ≡ cut_to r (standing_events r) r.standing → IsAlone t
alone-cut r t within is = ap (λ (k : Recorded). k.standing) is ∙ sym (ap (λ (k : Recorded). length k.events) is ∙ length-take-le r.standing r.events within)

first-again : (n : ℕ) (es : List Event) → take n (take n es) ≡ take n es
first-again zero es = refl
first-again (suc n) [] = refl
first-again (suc n) (x ∷ es) = ap (λ l. x ∷ l) (first-again n es)

pub session-cut : (r t : Recorded) → t ≡ cut_to r (standing_events r) r.standing → session_of t ≡ session_of r
session-cut r t is = ap (λ (k : Recorded). session_of k) is ∙ ap (λ es. record (session_of r) { events = es }) (first-again r.standing r.events)

-- a record of which all stands, by what stands
alone-is : (r : Recorded) (s : Standing) → IsAlone r → session_of r ≡ s → r ≡ record { start = s.start; events = s.events; standing = length s.events; limit = s.limit; dropped = r.dropped }
alone-is r s alone is =
    ap (λ n. with_standing r n) (sym (alone-count r alone)) ∙ ap (λ es. record { start = r.start; events = es; standing = length (standing_events r); limit = r.limit; dropped = r.dropped }) (sym (alone-standing r alone))
    ∙ ap (λ (k : Standing). record { start = k.start; events = k.events; standing = length k.events; limit = k.limit; dropped = r.dropped }) is

left-out-length : (i : ℕ) (es : List Event) → i < length es → length (take i es ++ drop (suc i) es) ≡ length es - 1
left-out-length i [] h = absurd (omega (arith, h))
left-out-length zero (x ∷ es) h = omega arith
left-out-length (suc i) (x ∷ es) h = omega (arith, h, left-out-length i es (omega (arith, h)))

pub length-withdrawn : (k : ℕ) (es : List Event) → 0 < k → k ≤ length es → length (without_event k es) ≡ length es - 1
length-withdrawn zero es h l = absurd (omega (arith, h))
length-withdrawn (suc i) es h l = let same : suc i - 1 ≡ i = omega arith in rw same (left-out-length i es (omega (arith, l)))

-- a change is withdrawn
pub withdrawn-alone : (r cut t : Recorded) (k : ℕ) → r.standing ≤ length r.events → 0 < k → k ≤ length (standing_events r) → cut ≡ cut_to r (standing_events r) r.standing → StaysAlone cut t
    → session_of t ≡ record (session_of cut) { events = without_event k (standing_events cut) } → t ≡ without_change r k
withdrawn-alone r cut t k within some inside is stays stands =
    let same : session_of t ≡ record (session_of r) { events = without_event k (standing_events r) }
    = stands ∙ ap (λ (s : Standing). record s { events = without_event k s.events }) (session-cut r cut is)
    in let all : length (standing_events r) ≡ r.standing = length-take-le r.standing r.events within
    in let count : length (without_event k (standing_events r)) ≡ r.standing - 1 = length-withdrawn k (standing_events r) some inside ∙ ap (λ n. n - 1) all
    in alone-is t (record (session_of r) { events = without_event k (standing_events r) }) stays.alone same
    ∙ ap (λ n. record { start = r.start; events = without_event k (standing_events r); standing = n; limit = r.limit; dropped = t.dropped }) count
    ∙ ap (λ d. record { start = r.start; events = without_event k (standing_events r); standing = r.standing - 1; limit = r.limit; dropped = d }) (stays.dropped ∙ ap (λ (k : Recorded). k.dropped) is)
