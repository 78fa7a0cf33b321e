-- The last change of a place is the greatest number of a change that alters it, and the last stop the greatest
-- number of events after which the CPU operates at a breakpoint.
use Rattle.std.proofs.Common.{◌≡◌, ◌<◌, ◌+◌, ◌⊎◌, inl, inr, ℕ, zero, suc, Bool, true, false, cond, List, [], ◌∷◌, Option, Some, None, refl, sym, ◌∙◌, subst, arith, true≢false, unwrap_or}
use Rattle.s360_store.specs.declared.place.Place.{Place}
use Rattle.s360_machine.specs.declared.event.Event.{Event}
use Rattle.s360_machine.specs.Machine.{Machine}
use Rattle.s360_machine.specs.Step.{after}
use Rattle.s360_journal.specs.Breakpoints.{is_at_breakpoint}
use Rattle.s360_journal.specs.Rerun.{alters, or_else, last_numbered_from}
use Rattle.s360_journal.specs.Stops.{last_stop_from}
use Rattle.s360_journal.specs.Laws.{IsAltered, IsGreatestFrom, LastChangeIsTheGreatest, IsStop, LastStopIsTheGreatest}

-- a later event comes before the first
IsGreatestFrom-later : (k n : ℕ) (m : Machine) (e : Event) (es : List Event) (p : Place) → IsGreatestFrom (k + 1) (after m e) es p (Some n) → IsGreatestFrom k m (e ∷ es) p (Some n)
IsGreatestFrom-later k n m e es p h =
    let no_later : (j : ℕ) → suc h.0 < j → IsAltered m (e ∷ es) p j → ⊥ = λ j. elim j as (λ x. suc h.0 < x → IsAltered m (e ∷ es) p x → ⊥) [
      | zero ↦ λ l a. absurd (omega arith)
      | suc x ↦ λ l a. h.3 x (omega arith) a
    ]
    in (suc h.0, omega (arith, h.1), h.2, no_later)

-- the first event, where no later one alters the place
IsGreatestFrom-first : (k : ℕ) (m : Machine) (e : Event) (es : List Event) (p : Place) (b : Bool) → alters m e p ≡ b → IsGreatestFrom (k + 1) (after m e) es p None
    → IsGreatestFrom k m (e ∷ es) p (cond b (Some k) None)
IsGreatestFrom-first k m e es p true a h =
    let no_later : (j : ℕ) → 0 < j → IsAltered m (e ∷ es) p j → ⊥ = λ j. elim j as (λ x. 0 < x → IsAltered m (e ∷ es) p x → ⊥) [
      | zero ↦ λ l x. absurd (omega arith)
      | suc y ↦ λ l x. h y x
    ]
    in (0, omega arith, a, no_later)
IsGreatestFrom-first k m e es p false a h =
    λ i. elim i as (λ x. IsAltered m (e ∷ es) p x → ⊥) [
      | zero ↦ λ x. absurd (cc)
      | suc y ↦ λ x. h y x
    ]

IsGreatestFrom-or_else : (k : ℕ) (m : Machine) (e : Event) (es : List Event) (p : Place) (o : Option ℕ) → IsGreatestFrom (k + 1) (after m e) es p o
    → IsGreatestFrom k m (e ∷ es) p (or_else o (cond (alters m e p) (Some k) None))
IsGreatestFrom-or_else k m e es p (Some n) h = IsGreatestFrom-later k n m e es p h
IsGreatestFrom-or_else k m e es p None h = IsGreatestFrom-first k m e es p (alters m e p) refl h

IsGreatestFrom-last : (k : ℕ) (m : Machine) (es : List Event) (p : Place) → IsGreatestFrom k m es p (last_numbered_from k m es p)
IsGreatestFrom-last k m [] p = λ i a. a
IsGreatestFrom-last k m (e ∷ es) p = IsGreatestFrom-or_else k m e es p (last_numbered_from (k + 1) (after m e) es p) (IsGreatestFrom-last (k + 1) (after m e) es p)

pub last_change-greatest : LastChangeIsTheGreatest
last_change-greatest = λ m es p. IsGreatestFrom-last 1 m es p

-- what is looked for from a number on: the greatest index of a stop, or none
abbrev pub IsLastStopFrom : ℕ → Machine → List Event → List ℕ → Option ℕ → Type 0
IsLastStopFrom first m es bs None = (i : ℕ) → IsStop m es bs i → ⊥
IsLastStopFrom first m es bs (Some n) = (i : ℕ) × (n ≡ first + i) × IsStop m es bs i × ((j : ℕ) → i < j → IsStop m es bs j → ⊥)

-- a later stop comes before the first
IsLastStopFrom-later : (k n : ℕ) (m : Machine) (e : Event) (es : List Event) (bs : List ℕ) → IsLastStopFrom (k + 1) (after m e) es bs (Some n) → IsLastStopFrom k m (e ∷ es) bs (Some n)
IsLastStopFrom-later k n m e es bs h =
    let no_later : (j : ℕ) → suc h.0 < j → IsStop m (e ∷ es) bs j → ⊥ = λ j. elim j as (λ x. suc h.0 < x → IsStop m (e ∷ es) bs x → ⊥) [
      | zero ↦ λ l a. absurd (omega arith)
      | suc x ↦ λ l a. h.3 x (omega arith) (omega (arith, a.0), a.1)
    ]
    in (suc h.0, omega (arith, h.1), (omega (arith, h.2.0), h.2.1), no_later)

-- the machine before the first event, where no later one is at a stop
IsLastStopFrom-first : (k : ℕ) (m : Machine) (e : Event) (es : List Event) (bs : List ℕ) (b : Bool) → is_at_breakpoint m bs ≡ b → IsLastStopFrom (k + 1) (after m e) es bs None
    → IsLastStopFrom k m (e ∷ es) bs (cond b (Some k) None)
IsLastStopFrom-first k m e es bs true a h =
    let no_later : (j : ℕ) → 0 < j → IsStop m (e ∷ es) bs j → ⊥ = λ j. elim j as (λ x. 0 < x → IsStop m (e ∷ es) bs x → ⊥) [
      | zero ↦ λ l x. absurd (omega arith)
      | suc y ↦ λ l x. h y (omega (arith, x.0), x.1)
    ]
    in (0, omega arith, (omega arith, a), no_later)
IsLastStopFrom-first k m e es bs false a h =
    λ i. elim i as (λ x. IsStop m (e ∷ es) bs x → ⊥) [
      | zero ↦ λ x. true≢false (sym x.1 ∙ a)
      | suc y ↦ λ x. h y (omega (arith, x.0), x.1)
    ]

IsLastStopFrom-or_else : (k : ℕ) (m : Machine) (e : Event) (es : List Event) (bs : List ℕ) (o : Option ℕ) → IsLastStopFrom (k + 1) (after m e) es bs o
    → IsLastStopFrom k m (e ∷ es) bs (or_else o (cond (is_at_breakpoint m bs) (Some k) None))
IsLastStopFrom-or_else k m e es bs (Some n) h = IsLastStopFrom-later k n m e es bs h
IsLastStopFrom-or_else k m e es bs None h = IsLastStopFrom-first k m e es bs (is_at_breakpoint m bs) refl h

IsLastStopFrom-last : (k : ℕ) (m : Machine) (es : List Event) (bs : List ℕ) → IsLastStopFrom k m es bs (last_stop_from k m es bs)
IsLastStopFrom-last k m [] bs = λ i a. absurd (omega (arith, a.0))
IsLastStopFrom-last k m (e ∷ es) bs = IsLastStopFrom-or_else k m e es bs (last_stop_from (k + 1) (after m e) es bs) (IsLastStopFrom-last (k + 1) (after m e) es bs)

IsLastStop-from : (m : Machine) (es : List Event) (bs : List ℕ) (o : Option ℕ) → IsLastStopFrom 0 m es bs o
    → (IsStop m es bs (unwrap_or o 0) ⊎ (unwrap_or o 0 ≡ 0)) × ((k : ℕ) → unwrap_or o 0 < k → IsStop m es bs k → ⊥)
IsLastStop-from m es bs None h = (inr refl, λ k l s. h k s)
IsLastStop-from m es bs (Some n) h =
    let same : h.0 ≡ n = omega (arith, h.1)
    in (inl (subst (λ i. IsStop m es bs i) same h.2), λ k l s. h.3 k (omega (arith, same, l)) s)

pub last_stop-greatest : LastStopIsTheGreatest
last_stop-greatest = λ m es bs. IsLastStop-from m es bs (last_stop_from 0 m es bs) (IsLastStopFrom-last 0 m es bs)
