-- An item goes from one part of a list to the other.
use Rattle.std.proofs.Common.{◌≡◌, ◌≤◌, ◌<◌, ◌+◌, ◌-◌, ◌++◌, ◌∙◌, ℕ, zero, suc, List, [], ◌∷◌, refl, ap, sym, arith, drop, length, reverse, take}
use Rattle.std.proofs.lemmas.List.{length-reverse, reverse-append}

-- the item at a place
at : {X : Type 0} (l : List X) (n : ℕ) → n < length l → (x : X) × (drop n l ≡ x ∷ drop (suc n) l)
at [] n h = absurd (omega (arith, h))
at (y ∷ ys) zero h = (y, refl)
at (y ∷ ys) (suc n) h = at ys n (omega (arith, h))

joins : {X : Type 0} (l : List X) (n : ℕ) (x : X) (xs : List X) → drop n l ≡ x ∷ xs → (take (suc n) l ≡ take n l ++ x ∷ []) × (drop (suc n) l ≡ xs)
joins [] zero x xs h = absurd (cc)
joins [] (suc n) x xs h = absurd (cc)
joins (y ∷ ys) zero x xs h = let same : y ≡ x = cc in (ap (λ z. z ∷ []) same, cc)
joins (y ∷ ys) (suc n) x xs h = let more : (take (suc n) ys ≡ take n ys ++ x ∷ []) × (drop (suc n) ys ≡ xs) = joins ys n x xs h in (ap (λ k. y ∷ k) more.0, more.1)

on : {X : Type 0} (l : List X) (n : ℕ) (x : X) (xs : List X) → drop n l ≡ x ∷ xs → (reverse (take (suc n) l) ≡ x ∷ reverse (take n l)) × (drop (suc n) l ≡ xs)
on l n x xs h =
    let one : (take (suc n) l ≡ take n l ++ x ∷ []) × (drop (suc n) l ≡ xs) = joins l n x xs h
    in (ap (λ k. reverse k) one.0 ∙ reverse-append (take n l) (x ∷ []), one.1)

pub gone-on : {X : Type 0} (l : List X) (n : ℕ) (x : X) (xs : List X) → drop n l ≡ x ∷ xs
    → (reverse (take (n + 1) l) ≡ x ∷ reverse (take n l)) × (drop (n + 1) l ≡ xs)
gone-on l n x xs h = let next : n + 1 ≡ suc n = omega arith in rw next (on l n x xs h)

pub gone-back : {X : Type 0} (l : List X) (n : ℕ) (x : X) (xs : List X) → n ≤ length l → reverse (take n l) ≡ x ∷ xs
    → (reverse (take (n - 1) l) ≡ xs) × (drop (n - 1) l ≡ x ∷ drop n l)
gone-back l zero x xs h is = absurd (cc)
gone-back l (suc m) x xs h is =
    let there : (y : _) × (drop m l ≡ y ∷ drop (suc m) l) = at l m (omega (arith, h))
    in let both : there.0 ∷ reverse (take m l) ≡ x ∷ xs = sym (on l m there.0 (drop (suc m) l) there.1).0 ∙ is
    in let same : there.0 ≡ x = cc
    in let left : suc m - 1 ≡ m = omega arith
    in rw left (cc, there.1 ∙ ap (λ z. z ∷ drop (suc m) l) same)

-- the first of a part
first-there : {X : Type 0} (l : List X) → (l ≡ [] → ⊥) → (x : X) × (l ≡ x ∷ drop 1 l)
first-there [] h = absurd (h refl)
first-there (x ∷ l) h = (x, refl)

pub part-on : {X : Type 0} (l : List X) (n : ℕ) → (drop n l ≡ [] → ⊥) → (reverse (take (n + 1) l) ≡ take 1 (drop n l) ++ reverse (take n l)) × (drop (n + 1) l ≡ drop 1 (drop n l))
part-on l n h =
    let there : (x : _) × (drop n l ≡ x ∷ drop 1 (drop n l)) = first-there (drop n l) h
    in let one = gone-on l n there.0 (drop 1 (drop n l)) there.1
    in (one.0 ∙ ap (λ k. take 1 k ++ reverse (take n l)) (sym there.1), one.1)

pub part-back : {X : Type 0} (l : List X) (n : ℕ) → n ≤ length l → (reverse (take n l) ≡ [] → ⊥)
    → (reverse (take (n - 1) l) ≡ drop 1 (reverse (take n l))) × (drop (n - 1) l ≡ take 1 (reverse (take n l)) ++ drop n l)
part-back l n h some =
    let there : (x : _) × (reverse (take n l) ≡ x ∷ drop 1 (reverse (take n l))) = first-there (reverse (take n l)) some
    in let one = gone-back l n there.0 (drop 1 (reverse (take n l))) h there.1
    in (one.0, one.1 ∙ ap (λ k. take 1 k ++ drop n l) (sym there.1))

-- where nothing is behind a place, all is before it
pub take-all : {X : Type 0} (l : List X) (n : ℕ) → n ≤ length l → drop n l ≡ [] → take n l ≡ l
take-all [] zero h none = refl
take-all [] (suc n) h none = refl
take-all (x ∷ l) zero h none = absurd (cc)
take-all (x ∷ l) (suc n) h none = ap (λ k. x ∷ k) (take-all l n (omega (arith, h)) none)

pub all-before : {X : Type 0} (l : List X) (n : ℕ) → n ≤ length l → drop n l ≡ [] → length (reverse (take n l)) ≡ length l
all-before l n h none = length-reverse (take n l) ∙ ap (λ k. length k) (take-all l n h none)
