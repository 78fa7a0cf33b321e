-- The first line of a text, found by a look for a line feed.
use Rattle.std.proofs.Common.{◌≡◌, ◌<◌, ◌≤◌, ◌+◌, ◌++◌, ℕ, zero, suc, Some, None, List, [], ◌∷◌, true, false, refl, ap, ◌∙◌, take, drop, get_or, length, nat_eq, arith, append_assoc, position}
use Rattle.std.proofs.lemmas.List.{append-nil, take_all, drop_all, drop_more}
use Rattle.s360_language.proofs.WordLemmas.{IsFirst, IsFirst-position, NonePasses-position}
use Rattle.s360_debug.specs.Lines.{without_return, lines_from, lines_of}

-- bytes that are no line feeds go to the line that was begun
gather : (l xs : List ℕ) (n : ℕ) → n ≤ length xs → ((k : ℕ) → k < n → nat_eq (get_or xs k 0) 10 ≡ false)
    → lines_from l xs ≡ lines_from (l ++ take n xs) (drop n xs)
gather l xs zero h k = rw append-nil refl
gather l [] (suc n) h k = absurd (omega arith)
gather l (x ∷ xs) (suc n) h k =
    rw (k 0 (omega arith))
    (gather (l ++ x ∷ []) xs n (omega arith) (λ i j. k (suc i) (omega arith)) ∙ ap (λ v. lines_from v (drop n xs)) (append_assoc l (x ∷ []) (take n xs)))

at_feed : (l : List ℕ) (x : ℕ) (xs : List ℕ) → nat_eq x 10 ≡ true → lines_from l (x ∷ xs) ≡ without_return l ∷ lines_of xs
at_feed l x xs h = rw h refl

pub lines_of-line : (xs : List ℕ) (n : ℕ) → position (λ b. nat_eq b 10) xs ≡ Some n → lines_of xs ≡ without_return (take n xs) ∷ lines_of (drop (n + 1) xs)
lines_of-line xs n h =
    let first : IsFirst (λ b. nat_eq b 10) xs n = IsFirst-position (λ b. nat_eq b 10) xs n h
    in let within : n < length xs = first.within
    in gather [] xs n (omega arith) first.before
    ∙ ap (λ l. lines_from (take n xs) l) (drop_more xs n 0 within)
    ∙ at_feed (take n xs) (get_or xs n 0) (drop (n + 1) xs) first.passes

pub lines_of-last : (xs : List ℕ) → position (λ b. nat_eq b 10) xs ≡ None → lines_of xs ≡ xs ∷ []
lines_of-last xs h =
    let all : take (length xs) xs ≡ xs = take_all (length xs) xs (omega arith)
    in let nothing : drop (length xs) xs ≡ [] = drop_all (length xs) xs (omega arith)
    in gather [] xs (length xs) (omega arith) (NonePasses-position (λ b. nat_eq b 10) xs h) ∙ rw (all, nothing) refl
