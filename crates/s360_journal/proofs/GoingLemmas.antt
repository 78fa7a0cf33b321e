-- The session that stands, as the record goes on and back.
use Rattle.std.proofs.Common.{◌≡◌, ◌≢◌, ◌≤◌, ◌+◌, ◌-◌, ◌∙◌, ℕ, zero, suc, nat_eq, Bool, List, [], ◌∷◌, Option, Some, None, true, false, refl, ap, sym, arith, length, take, eqb-true, true≢false, length-take-le}
use Rattle.std.specs.Bool.{then_some}
use Rattle.std.specs.Cmp.{both_ways}
use Rattle.s360_machine.specs.declared.event.Event.{Event}
use Rattle.s360_journal.specs.Recorded.{Recorded, session_of, standing_events, with_standing}
use Rattle.s360_journal.specs.Returning.{IsTakenBack, Paused, back_of, is_reached_back, one_back, paused_or}
use Rattle.s360_journal.specs.Running.{WhereToStop, pause_of}
use Rattle.s360_journal.specs.declared.running.Pause.{Pause}
use Rattle.s360_journal.specs.declared.running.Pause.TheVariants.{Done, RecordStart, Watch}
use Rattle.s360_journal.specs.declared.running.Reach.{Reach}

first-of-first : (k n : ℕ) (es : List Event) → k ≤ n → take k es ≡ take k (take n es)
first-of-first zero n es h = refl
first-of-first (suc k) zero es h = absurd (omega (arith, h))
first-of-first (suc k) (suc n) [] h = refl
first-of-first (suc k) (suc n) (x ∷ es) h = ap (λ l. x ∷ l) (first-of-first k n es (omega (arith, h)))

first-fewer : (n : ℕ) (es : List Event) → n ≤ length es → take (n - 1) es ≡ take (length (take n es) - 1) (take n es)
first-fewer zero es h = refl
first-fewer (suc n) es h =
    let less : suc n - 1 ≡ n = omega arith
    in let last : length (take (suc n) es) - 1 ≡ n = omega (arith, length-take-le (suc n) es h)
    in rw (less, last) (first-of-first n (suc n) es (omega arith))

-- ---- the last one is taken back

pub session_of-back : (old new : Recorded) → old.standing ≤ length old.events → new ≡ with_standing old (old.standing - 1)
    → session_of new ≡ record (session_of old) { events = take (length (standing_events old) - 1) (standing_events old) }
session_of-back old new within is =
    ap (λ (r : Recorded). session_of r) is
    ∙ ap (λ es. record (session_of old) { events = es }) (first-fewer old.standing old.events within)

-- the session of so many first changes
pub session_of-first : (old new : Recorded) (k : ℕ) → k ≤ old.standing → new ≡ with_standing old k → session_of new ≡ record (session_of old) { events = take k (standing_events old) }
session_of-first old new k within is =
    ap (λ (r : Recorded). session_of r) is ∙ ap (λ es. record (session_of old) { events = es }) (first-of-first k old.standing old.events within)

-- ---- the way back

-- so many turns are left of a way back
pub record IsReturning (stops : WhereToStop) (reach : Reach) (start now : Recorded) (most left : ℕ) : Type 0 where
  pub kept : now ≡ with_standing start now.standing
  pub within : now.standing ≤ start.standing
  pub back : back_of stops reach start most ≡ back_of stops reach now left

pub IsReturning-start : (stops : WhereToStop) (reach : Reach) (r : Recorded) (most : ℕ) → IsReturning stops reach r r most most
IsReturning-start stops reach r most = record { kept = refl; within = omega arith; back = refl }

kept-on : (start now next : Recorded) → now ≡ with_standing start now.standing → next ≡ with_standing now next.standing → next ≡ with_standing start next.standing
kept-on start now next a b = b ∙ ap (λ (r : Recorded). with_standing r next.standing) a

pub IsReturning-more : (stops : WhereToStop) (reach : Reach) (start now next : Recorded) (most n m : ℕ) → n ≡ m + 1 → IsReturning stops reach start now most n
    → IsTakenBack stops reach now None next → IsReturning stops reach start next most m
IsReturning-more stops reach start now next most n m count i t =
    let left : n ≡ suc m = omega arith
    in record {
      kept = kept-on start now next i.kept t.kept;
      within = omega (arith, i.within, t.within);
      back = i.back ∙ ap (λ k. back_of stops reach now k) left ∙ t.back m;
    }

-- where the machine pauses
pub record IsReturned (stops : WhereToStop) (reach : Reach) (start : Recorded) (most : ℕ) (why : Pause) (now : Recorded) : Type 0 where
  pub pause : why ≡ (back_of stops reach start most).why
  pub state : now ≡ with_standing start (back_of stops reach start most).standing
  pub within : now.standing ≤ start.standing

pub IsReturning-ended : (stops : WhereToStop) (reach : Reach) (start now next : Recorded) (most n m : ℕ) (why : Pause) → n ≡ m + 1 → IsReturning stops reach start now most n
    → IsTakenBack stops reach now (Some why) next → IsReturned stops reach start most why next
IsReturning-ended stops reach start now next most n m why count i t =
    let left : n ≡ suc m = omega arith
    in let is : back_of stops reach start most ≡ record { standing = next.standing; why = why } = i.back ∙ ap (λ k. back_of stops reach now k) left ∙ t.back m
    in record {
      pause = sym (ap (λ (p : Paused). p.why) is);
      state = kept-on start now next i.kept t.kept ∙ ap (λ n. with_standing start n) (sym (ap (λ (p : Paused). p.standing) is));
      within = omega (arith, i.within, t.within);
    }

pub IsReturning-all : (stops : WhereToStop) (reach : Reach) (start now : Recorded) (most n : ℕ) → n ≡ 0 → IsReturning stops reach start now most n → IsReturned stops reach start most Done now
unfolding back_of
IsReturning-all stops reach start now most n none i =
    let is : back_of stops reach start most ≡ record { standing = now.standing; why = Done } = i.back ∙ ap (λ k. back_of stops reach now k) none
    in record {
      pause = sym (ap (λ (p : Paused). p.why) is);
      state = i.kept ∙ ap (λ n. with_standing start n) (sym (ap (λ (p : Paused). p.standing) is));
      within = i.within;
    }

-- ---- one change is taken back

-- none stands
pub taken-none : (stops : WhereToStop) (reach : Reach) (r : Recorded) → r.standing ≡ 0 → IsTakenBack stops reach r (Some RecordStart) r
unfolding back_of
taken-none stops reach r none = record { back = λ n. rw none refl; kept = refl; within = omega arith }

some-stand : (n : ℕ) → n ≢ 0 → nat_eq n 0 ≡ false
some-stand n some = both_ways (nat_eq n 0) false (λ h. absurd (some (eqb-true n 0 h))) (λ h. absurd (true≢false (sym h)))

-- the last one altered what is watched
pub taken-watch : (stops : WhereToStop) (reach : Reach) (r : Recorded) → r.standing ≢ 0 → stops.altered (session_of r) ≡ true → IsTakenBack stops reach r (Some Watch) r
unfolding back_of
taken-watch stops reach r some altered =
    let count : nat_eq r.standing 0 ≡ false = some-stand r.standing some
    in record { back = λ n. rw (count, altered) refl; kept = refl; within = omega arith }

-- or it was taken back
pub taken-one : (stops : WhereToStop) (reach : Reach) (r t : Recorded) (reached : Bool) (pause : Option Pause) → r.standing ≢ 0 → stops.altered (session_of r) ≡ false
    → is_reached_back stops reach r ≡ reached → pause ≡ then_some reached (pause_of reach) → t ≡ one_back r → IsTakenBack stops reach r pause t
unfolding back_of
taken-one stops reach r t reached pause some altered is told back =
    let count : nat_eq r.standing 0 ≡ false = some-stand r.standing some
    in let standing : t.standing ≡ r.standing - 1 = ap (λ (k : Recorded). k.standing) back
    in let by : (b : Bool) → is_reached_back stops reach r ≡ b → (n : ℕ) → back_of stops reach r (suc n) ≡ paused_or (then_some b (pause_of reach)) t.standing (back_of stops reach t n)
    = λ b. elim b as (λ x. is_reached_back stops reach r ≡ x → (n : ℕ) → back_of stops reach r (suc n) ≡ paused_or (then_some x (pause_of reach)) t.standing (back_of stops reach t n)) [
      | true ↦ λ h n. rw (count, altered, h) (ap (λ k. record { standing = k; why = pause_of reach }) (sym standing))
      | false ↦ λ h n. rw (count, altered, h) (ap (λ (k : Recorded). back_of stops reach k n) (sym back))
    ]
    in record {
      back = λ n. by reached is n ∙ ap (λ p. paused_or p t.standing (back_of stops reach t n)) (sym told);
      kept = back ∙ ap (λ k. with_standing r k) (sym standing);
      within = omega (arith, standing);
    }
