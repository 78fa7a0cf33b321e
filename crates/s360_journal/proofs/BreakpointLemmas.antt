-- The breakpoints are a set of at most 64 addresses.
use Rattle.std.proofs.Common.{◌≡◌, ◌≢◌, ◌<◌, ◌⊎◌, ◌↔◌, inl, inr, ℕ, Bool, true, false, not, ◌&&◌, ◌||◌, cond, Result, Ok, Err, IsOk, OnOk, OnErr, subst, List, [], ◌∷◌, ◌++◌, refl, ap, sym, ◌∙◌, length, get_or, arith, length-append, nat_eq, Contains}
use Rattle.std.proofs.lemmas.Bool.{eqb-true, eq-eqb, eqb-false, leb-true, leb-false, le-leb, and_parts, and_from, or_cases, or_parts, or_left, or_right, or_from, not-true, true≢false, false_from_ne_true}
use Rattle.std.proofs.lemmas.List.Sums.{length-filter, count_by-le-length}
use Rattle.std.proofs.lemmas.List.Folds.{list_any_at, list_any-append}
use Rattle.std.proofs.lemmas.List.Kept.{AllPairs-filter}
use Rattle.std.proofs.lemmas.List.Quantifiers.{all_pairs_push}
use Rattle.std.proofs.lemmas.Map.Views.{Contains-from_any, any-filter_same}
use Rattle.arrayvec.specs.ArrayVec.{ArrayVec}
use Rattle.s360_journal.specs.Breakpoints.{AreBreakpoints, has_address, is_full, has_room_for, with_address, without_address}
use Rattle.s360_journal.specs.Laws.{BreakpointsAreASet}

-- an address is found just where it is one of them
contains-from_has : (bs : List ℕ) (a : ℕ) → has_address bs a ≡ true → Contains bs a
contains-from_has bs a h = Contains-from_any {eq = λ q x. nat_eq x q} (λ x y e. sym (eqb-true y x e)) a bs h

has-from_contains : (bs : List ℕ) (a : ℕ) → Contains bs a → has_address bs a ≡ true
has-from_contains bs a h = list_any_at (λ x. nat_eq x a) bs h.0 a h.1 (eq-eqb (get_or bs h.0 a) a h.2)

-- one that is not found is none of them
pub apart-from_has : (bs : List ℕ) (a : ℕ) → has_address bs a ≡ false → (k : ℕ) (d : ℕ) → k < length bs → get_or bs k d ≢ a
apart-from_has bs a h k d l e = true≢false (sym (list_any_at (λ x. nat_eq x a) bs k d l (eq-eqb (get_or bs k d) a e)) ∙ h)

-- an address more, where it is none of them and fewer than 64 are set
pub AreBreakpoints-push : (bs : List ℕ) (a : ℕ) → AreBreakpoints bs → has_address bs a ≡ false → length bs < 64 → AreBreakpoints (bs ++ a ∷ [])
AreBreakpoints-push bs a s h l = record {
  apart = all_pairs_push (λ x y. x ≢ y) bs a s.apart (apart-from_has bs a h);
  few = omega (arith, length-append bs (a ∷ []));
}

-- the same where it was appended if there was room
pub AreBreakpoints-try_push : {A E : Type 0} (r : Result A E) (v w : ArrayVec ℕ) (a : ℕ) → AreBreakpoints v.items → has_address v.items a ≡ false
    → IsOk r ↔ (length v.items < 64) → OnOk r (w.items ≡ v.items ++ a ∷ []) → OnErr r (w ≡ v) → AreBreakpoints w.items
AreBreakpoints-try_push (Ok x) v w a s h room ok err = subst AreBreakpoints (sym ok) (AreBreakpoints-push v.items a s h (room.0 refl))
AreBreakpoints-try_push (Err e) v w a s h room ok err = subst AreBreakpoints (sym (ap (λ (u : ArrayVec ℕ). u.items) err)) s

pub AreBreakpoints-without : (bs : List ℕ) (a : ℕ) → AreBreakpoints bs → AreBreakpoints (without_address bs a)
AreBreakpoints-without bs a s = record {
  apart = AllPairs-filter (λ x y. x ≢ y) (λ x. not (nat_eq x a)) bs s.apart;
  few = omega (arith, length-filter (λ x. not (nat_eq x a)) bs, count_by-le-length (λ x. not (nat_eq x a)) bs, s.few);
}

AreBreakpoints-with : (bs : List ℕ) (a : ℕ) → AreBreakpoints bs → AreBreakpoints (with_address bs a)
AreBreakpoints-with bs a s =
    let by : (b : Bool) → (has_address bs a || is_full bs) ≡ b → AreBreakpoints (cond b bs (bs ++ a ∷ []))
    = λ b. elim b as (λ x. (has_address bs a || is_full bs) ≡ x → AreBreakpoints (cond x bs (bs ++ a ∷ []))) [
      | true ↦ λ h. s
      | false ↦ λ h. AreBreakpoints-push bs a s (or_parts (has_address bs a) (is_full bs) h).0 (leb-false 64 (length bs) (or_parts (has_address bs a) (is_full bs) h).1)
    ]
    in by (has_address bs a || is_full bs) refl

-- an address has no room just where it is none of them, and they are full
no_room : (h f : Bool) → (h || not f) ≡ false → (h ≡ false) × (f ≡ true)
no_room true f e = cc
no_room false true e = (refl, refl)
no_room false false e = cc

room : (h f : Bool) → (h || not f) ≡ true → (h ≡ true) ⊎ ((h ≡ false) × (f ≡ false))
room true f e = inl refl
room false true e = cc
room false false e = inr (refl, refl)

refused-to : (bs : List ℕ) (a : ℕ) → AreBreakpoints bs → has_room_for bs a ≡ false → (length bs ≡ 64) × (Contains bs a → ⊥)
refused-to bs a s h =
    let parts : (has_address bs a ≡ false) × (is_full bs ≡ true) = no_room (has_address bs a) (is_full bs) h
    in (omega (arith, leb-true 64 (length bs) parts.1, s.few), λ c. true≢false (sym (has-from_contains bs a c) ∙ parts.0))

refused-from : (bs : List ℕ) (a : ℕ) → (length bs ≡ 64) × (Contains bs a → ⊥) → has_room_for bs a ≡ false
refused-from bs a h =
    let none : has_address bs a ≡ false = false_from_ne_true (has_address bs a) (λ e. h.1 (contains-from_has bs a e))
    in let full : is_full bs ≡ true = le-leb 64 (length bs) (omega (arith, h.0))
    in or_from (has_address bs a) (not (is_full bs)) none (ap not full)

unchanged : (bs : List ℕ) (a : ℕ) → has_room_for bs a ≡ false → with_address bs a ≡ bs
unchanged bs a h =
    let parts : (has_address bs a ≡ false) × (is_full bs ≡ true) = no_room (has_address bs a) (is_full bs) h
    in ap (λ b. cond b bs (bs ++ a ∷ [])) (or_right (has_address bs a) (is_full bs) parts.1)

-- where there is room, an address is found just where it is the one that was set or was found before
found-of_them : (bs : List ℕ) (a b : ℕ) → has_address bs a ≡ true → (x : Bool) → nat_eq a b ≡ x → has_address bs b ≡ (x || has_address bs b)
found-of_them bs a b h true e = ap (λ y. has_address bs y) (sym (eqb-true a b e)) ∙ h
found-of_them bs a b h false e = refl

last_first : (x y : Bool) → (x || (y || false)) ≡ (y || x)
last_first true true = refl
last_first true false = refl
last_first false true = refl
last_first false false = refl

found-with : (bs : List ℕ) (a b : ℕ) → has_room_for bs a ≡ true → has_address (with_address bs a) b ≡ (nat_eq a b || has_address bs b)
found-with bs a b h =
    let made : (x : Bool) → (has_address bs a || is_full bs) ≡ x → has_address (with_address bs a) b ≡ has_address (cond x bs (bs ++ a ∷ [])) b
    = λ x e. ap (λ y. has_address (cond y bs (bs ++ a ∷ [])) b) e
    in let there : has_address bs a ≡ true → has_address (with_address bs a) b ≡ (nat_eq a b || has_address bs b)
    = λ e. made true (or_left (has_address bs a) (is_full bs) e) ∙ found-of_them bs a b e (nat_eq a b) refl
    in let pushed : (has_address bs a ≡ false) × (is_full bs ≡ false) → has_address (with_address bs a) b ≡ (nat_eq a b || has_address bs b)
    = λ e. made false (or_from (has_address bs a) (is_full bs) e.0 e.1)
    ∙ list_any-append (λ x. nat_eq x b) bs (a ∷ []) ∙ last_first (has_address bs b) (nat_eq a b)
    in elim (room (has_address bs a) (is_full bs) h) [ inl e ↦ there e | inr e ↦ pushed e ]

-- an address is found after another is removed just where it is not that one and was found before
found-without : (bs : List ℕ) (a b : ℕ) → has_address (without_address bs a) b ≡ (not (nat_eq b a) && has_address bs b)
found-without bs a b = any-filter_same (λ x. nat_eq x b) (λ x. not (nat_eq x a)) (not (nat_eq b a)) (λ k e. ap (λ x. not (nat_eq x a)) (eqb-true k b e)) bs

added-to : (bs : List ℕ) (a b : ℕ) → has_room_for bs a ≡ true → Contains (with_address bs a) b → (b ≡ a) ⊎ Contains bs b
added-to bs a b h c =
    elim (or_cases (nat_eq a b) (has_address bs b) (sym (found-with bs a b h) ∙ has-from_contains (with_address bs a) b c))
    [ inl e ↦ inl (sym (eqb-true a b e)) | inr e ↦ inr (contains-from_has bs b e) ]

added-from : (bs : List ℕ) (a b : ℕ) → has_room_for bs a ≡ true → (b ≡ a) ⊎ Contains bs b → Contains (with_address bs a) b
added-from bs a b h (inl e) = contains-from_has (with_address bs a) b (found-with bs a b h ∙ or_left (nat_eq a b) (has_address bs b) (eq-eqb a b (sym e)))
added-from bs a b h (inr c) = contains-from_has (with_address bs a) b (found-with bs a b h ∙ or_right (nat_eq a b) (has_address bs b) (has-from_contains bs b c))

removed-to : (bs : List ℕ) (a b : ℕ) → Contains (without_address bs a) b → (b ≢ a) × Contains bs b
removed-to bs a b c =
    let parts : (not (nat_eq b a) ≡ true) × (has_address bs b ≡ true)
    = and_parts (not (nat_eq b a)) (has_address bs b) (sym (found-without bs a b) ∙ has-from_contains (without_address bs a) b c)
    in (eqb-false b a (not-true (nat_eq b a) parts.0), contains-from_has bs b parts.1)

removed-from : (bs : List ℕ) (a b : ℕ) → (b ≢ a) × Contains bs b → Contains (without_address bs a) b
removed-from bs a b h =
    let other : nat_eq b a ≡ false = false_from_ne_true (nat_eq b a) (λ e. h.0 (eqb-true b a e))
    in contains-from_has (without_address bs a) b
    (found-without bs a b ∙ and_from (not (nat_eq b a)) (has_address bs b) (ap not other) (has-from_contains bs b h.1))

pub breakpoints-set : BreakpointsAreASet
breakpoints-set = record {
  found = λ bs a. (contains-from_has bs a, has-from_contains bs a);
  refused = λ bs a s. (refused-to bs a s, refused-from bs a);
  unchanged = unchanged;
  added = λ bs a b h. (added-to bs a b h, added-from bs a b h);
  removed = λ bs a b. (removed-to bs a b, removed-from bs a b);
  at_first = record { apart = λ i j d l m. absurd (omega arith); few = omega arith };
  after_add = AreBreakpoints-with;
  after_remove = AreBreakpoints-without;
}
