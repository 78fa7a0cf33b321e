-- Places that are one, and what a put does to a plan.
use Rattle.std.proofs.Common.{◌≡◌, ◌≢◌, ◌<◌, ◌≤◌, ◌-◌, ◌++◌, ◌⊎◌, inl, inr, ℕ, List, [], ◌∷◌, refl, ap, sym, ◌∙◌, length, arith, Bool, true, false, cond, Some, IsSome, eq-eqb, eqb-true}
use Rattle.s360_model.specs.Core.{Core}
use Rattle.s360_store.specs.declared.place.Place.{Place}
use Rattle.s360_store.specs.declared.place.Place.TheVariants.{Psw, Register, Byte, Key, Run, External, UnitState, UnitMedia}
use Rattle.s360_store.specs.declared.place.Cell.{Cell}
use Rattle.s360_store.specs.Places.{with_value, same_place}
use Rattle.s360_store.specs.Cells.{after_exchange, IsFresh, HasEachOnce}
use Rattle.s360_store.specs.Plans.{after_put, planned_value}
use Rattle.s360_store.proofs.PlaceLemmas.{with_value-twice}
use Rattle.s360_store.proofs.ExchangeLemmas.{after_exchange-with_value}

pub same_place-refl : (p : Place) → same_place p p ≡ true
same_place-refl (Register n) = eq-eqb n n refl
same_place-refl (Byte n) = eq-eqb n n refl
same_place-refl (Key n) = eq-eqb n n refl
same_place-refl (UnitState u) = eq-eqb u.0 u.0 refl
same_place-refl (UnitMedia u) = eq-eqb u.0 u.0 refl
same_place-refl p = refl

pub same_place-true : (p q : Place) → same_place p q ≡ true → p ≡ q
same_place-true Psw Psw h = refl
same_place-true (Register n) (Register k) h = ap (λ i. Register i) (eqb-true n k h)
same_place-true (Byte n) (Byte k) h = ap (λ i. Byte i) (eqb-true n k h)
same_place-true (Key n) (Key k) h = ap (λ i. Key i) (eqb-true n k h)
same_place-true Run Run h = refl
same_place-true External External h = refl
same_place-true (UnitState u) (UnitState v) h = ap (λ n. UnitState (record { 0 = n })) (eqb-true u.0 v.0 h)
same_place-true (UnitMedia u) (UnitMedia v) h = ap (λ n. UnitMedia (record { 0 = n })) (eqb-true u.0 v.0 h)
same_place-true p q h = cc

pub same_place-false : (p q : Place) → p ≢ q → same_place p q ≡ false
same_place-false p q h =
    let by : (b : Bool) → same_place p q ≡ b → b ≡ false
    = λ b. elim b as (λ x. same_place p q ≡ x → x ≡ false) [ true ↦ λ e. absurd (h (same_place-true p q e)) | false ↦ λ e. refl ]
    in by (same_place p q) refl

pub differs : (p q : Place) → same_place p q ≡ false → p ≢ q
differs p q e s = let r : same_place p p ≡ false = rw (← s) at e in let t : same_place p p ≡ true = same_place-refl p in cc

pub same_place-sym : (p q : Place) → same_place p q ≡ same_place q p
same_place-sym p q =
    let by : (b : Bool) → same_place p q ≡ b → b ≡ same_place q p
    = λ b. elim b as (λ x. same_place p q ≡ x → x ≡ same_place q p) [
      | true ↦ λ e. let s : p ≡ q = same_place-true p q e in rw s (sym (same_place-refl q))
      | false ↦ λ e. sym (same_place-false q p (λ s. differs p q e (sym s)))
    ]
    in by (same_place p q) refl

-- a put in a plan is a value put in the core that the plan makes
pub after_exchange-after_put : (m : Core) (cs : List Cell) (p : Place) (v : ℕ) → HasEachOnce cs → after_exchange m (after_put cs p v) ≡ with_value (after_exchange m cs) p v
after_exchange-after_put m [] p v h = refl
after_exchange-after_put m (c ∷ cs) p v h =
    let by : (b : Bool) → same_place c.place p ≡ b
    → after_exchange m (cond b (record { place = c.place; value = v } ∷ cs) (c ∷ after_put cs p v)) ≡ with_value (after_exchange (with_value m c.place c.value) cs) p v
    = λ b. elim b as (λ x. same_place c.place p ≡ x
    → after_exchange m (cond x (record { place = c.place; value = v } ∷ cs) (c ∷ after_put cs p v)) ≡ with_value (after_exchange (with_value m c.place c.value) cs) p v) [
      | true ↦ λ e.
          ap (λ n. after_exchange n cs) (sym (with_value-twice m c.place c.value v))
          ∙ after_exchange-with_value (with_value m c.place c.value) cs c.place v h.0
          ∙ ap (λ q. with_value (after_exchange (with_value m c.place c.value) cs) q v) (same_place-true c.place p e)
      | false ↦ λ e. after_exchange-after_put (with_value m c.place c.value) cs p v h.1
    ]
    in by (same_place c.place p) refl

pub IsFresh-push : (cs : List Cell) (x : Cell) (p : Place) → p ≢ x.place → IsFresh p cs → IsFresh p (cs ++ x ∷ [])
IsFresh-push [] x p n h = (n, tt)
IsFresh-push (c ∷ cs) x p n h = (h.0, IsFresh-push cs x p n h.1)

pub IsFresh-after_put : (cs : List Cell) (p q : Place) (v : ℕ) → q ≢ p → IsFresh q cs → IsFresh q (after_put cs p v)
IsFresh-after_put [] p q v n h = (n, tt)
IsFresh-after_put (c ∷ cs) p q v n h =
    let by : (b : Bool) → IsFresh q (cond b (record { place = c.place; value = v } ∷ cs) (c ∷ after_put cs p v))
    = λ b. elim b as (λ x. IsFresh q (cond x (record { place = c.place; value = v } ∷ cs) (c ∷ after_put cs p v)))
    [ true ↦ (h.0, h.1) | false ↦ (h.0, IsFresh-after_put cs p q v n h.1) ]
    in by (same_place c.place p)

-- a put keeps each place to one cell
pub HasEachOnce-after_put : (cs : List Cell) (p : Place) (v : ℕ) → HasEachOnce cs → HasEachOnce (after_put cs p v)
HasEachOnce-after_put [] p v h = (tt, tt)
HasEachOnce-after_put (c ∷ cs) p v h =
    let by : (b : Bool) → same_place c.place p ≡ b → HasEachOnce (cond b (record { place = c.place; value = v } ∷ cs) (c ∷ after_put cs p v))
    = λ b. elim b as (λ x. same_place c.place p ≡ x → HasEachOnce (cond x (record { place = c.place; value = v } ∷ cs) (c ∷ after_put cs p v))) [
      | true ↦ λ e. h
      | false ↦ λ e. (IsFresh-after_put cs p c.place v (differs c.place p e) h.0, HasEachOnce-after_put cs p v h.1)
    ]
    in by (same_place c.place p) refl

-- a put at a place that is there adds none, and any other adds one
pub length-after_put-le : (cs : List Cell) (p : Place) (v n : ℕ) → IsSome (planned_value cs p) ⊎ (length cs < n) → length cs ≤ n → length (after_put cs p v) ≤ n
length-after_put-le [] p v n room few = elim room [ inl h ↦ absurd (cc) | inr h ↦ omega arith ]
length-after_put-le (c ∷ cs) p v n room few =
    let by : (b : Bool) → IsSome (cond b (Some c.value) (planned_value cs p)) ⊎ (length (c ∷ cs) < n) → length (cond b (record { place = c.place; value = v } ∷ cs) (c ∷ after_put cs p v)) ≤ n
    = λ b. elim b as (λ x. IsSome (cond x (Some c.value) (planned_value cs p)) ⊎ (length (c ∷ cs) < n) → length (cond x (record { place = c.place; value = v } ∷ cs) (c ∷ after_put cs p v)) ≤ n) [
      | true ↦ λ r. few
      | false ↦ λ r. omega (arith, length-after_put-le cs p v (n - 1) (elim r [ inl h ↦ inl h | inr h ↦ inr (omega arith) ]) (omega arith))
    ]
    in by (same_place c.place p) room
