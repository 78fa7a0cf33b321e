-- Bytes that stand there, and bytes that do not.
use Rattle.std.proofs.Common.{◌≡◌, ◌≢◌, ◌<◌, ◌≤◌, ◌+◌, ◌⊎◌, ℕ, inl, inr, List, subst, get_or, length, arith}
use Rattle.std.proofs.lemmas.Bool.{cases_lt}

-- those from one place up to another stand there
pub record SameFrom (stored new : List ℕ) (from start : ℕ) : Type 0 where
  pub order : from ≤ start
  pub within : start ≤ length new
  pub same : (i : ℕ) → from ≤ i → i < start → get_or stored i 0 ≡ get_or new i 0

pub same-none : (stored new : List ℕ) (from : ℕ) → from ≤ length new → SameFrom stored new from from
same-none stored new from l = record { order = omega arith; within = l; same = λ i m n. absurd (omega (arith, m, n)) }

same-at : (stored new : List ℕ) (from start n i : ℕ) → SameFrom stored new from start → ((j : ℕ) → start ≤ j → j < start + n → get_or stored j 0 ≡ get_or new j 0) → from ≤ i → i < start + n → (i < start) ⊎ (start ≤ i)
    → get_or stored i 0 ≡ get_or new i 0
same-at stored new from start n i h more f l (inl m) = h.same i f m
same-at stored new from start n i h more f l (inr m) = more i m l

pub same-most : (stored new : List ℕ) (from start n : ℕ) → start + n ≤ length new → SameFrom stored new from start → ((j : ℕ) → start ≤ j → j < start + n → get_or stored j 0 ≡ get_or new j 0) → SameFrom stored new from (start + n)
same-most stored new from start n l h more = record { order = omega (arith, h.order); within = l; same = λ i f m. same-at stored new from start n i h more f m (cases_lt i start) }

pub same-more : (stored new : List ℕ) (from start : ℕ) → start < length new → SameFrom stored new from start → get_or stored start 0 ≡ get_or new start 0 → SameFrom stored new from (start + 1)
same-more stored new from start l h e =
    same-most stored new from start 1 (omega (arith, l)) h (λ j a b. let here : start ≡ j = omega (arith, a, b) in subst (λ k. get_or stored k 0 ≡ get_or new k 0) here e)

-- those from one place up to another do not
pub record DifferWithin (stored new : List ℕ) (start end : ℕ) : Type 0 where
  pub order : start ≤ end
  pub within : end ≤ length new
  pub other : (i : ℕ) → start ≤ i → i < end → get_or stored i 0 ≢ get_or new i 0

pub differ-none : (stored new : List ℕ) (start : ℕ) → start ≤ length new → DifferWithin stored new start start
differ-none stored new start l = record { order = omega arith; within = l; other = λ i m n. absurd (omega (arith, m, n)) }

differ-at : (stored new : List ℕ) (start end n i : ℕ) → DifferWithin stored new start end → ((j : ℕ) → end ≤ j → j < end + n → get_or stored j 0 ≢ get_or new j 0) → start ≤ i → i < end + n
    → (i < end) ⊎ (end ≤ i) → get_or stored i 0 ≢ get_or new i 0
differ-at stored new start end n i h more l m (inl k) = h.other i l k
differ-at stored new start end n i h more l m (inr k) = more i k m

pub differ-more : (stored new : List ℕ) (start end n : ℕ) → end + n ≤ length new → DifferWithin stored new start end → ((j : ℕ) → end ≤ j → j < end + n → get_or stored j 0 ≢ get_or new j 0)
    → DifferWithin stored new start (end + n)
differ-more stored new start end n l h more =
    record { order = omega (arith, h.order); within = l; other = λ i a b. differ-at stored new start end n i h more a b (cases_lt i end) }

pub differ-one : (stored new : List ℕ) (start end : ℕ) → end < length new → DifferWithin stored new start end → get_or stored end 0 ≢ get_or new end 0 → DifferWithin stored new start (end + 1)
differ-one stored new start end l h other =
    differ-more stored new start end 1 (omega (arith, l)) h (λ j a b e. let here : j ≡ end = omega (arith, a, b) in other (rw here at e))
