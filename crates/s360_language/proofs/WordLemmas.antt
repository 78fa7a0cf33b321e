-- The first word of a line, found by a look for a byte that is no blank, and then for a blank.
use Rattle.std.proofs.Common.{◌≡◌, ◌≢◌, ◌<◌, ◌≤◌, ◌+◌, ◌-◌, ◌++◌, ℕ, zero, suc, Some, None, List, [], ◌∷◌, Bool, true, false, not, cond, refl, ap, sym, ◌∙◌, take, drop, get_or, length, nat_lt, nat_eq, arith, append_assoc, ltb-false}
use Rattle.std.proofs.lemmas.Grind.{common_steps}
use Rattle.std.proofs.lemmas.List.{append-nil, take_all, drop_all, get_or-drop, length-drop}
use Rattle.std.proofs.lemmas.List.Quantifiers.{position-Some}
use Rattle.std.proofs.lemmas.List.Sums.{fails_before_first}
use Rattle.std.specs.List.{position, position_or_len}
use Rattle.s360_language.specs.Words.{from_first, word_then, words_from, words_of}

-- blanks before a word don't count
skip_blanks : (xs : List ℕ) (n : ℕ) → n ≤ length xs → ((k : ℕ) → k < n → not (nat_eq (get_or xs k 0) 32) ≡ false) → words_of xs ≡ words_of (drop n xs)
skip_blanks xs zero l h = refl
skip_blanks [] (suc n) l h = refl
skip_blanks (x ∷ xs) (suc n) l h =
    let first : not (nat_eq x 32) ≡ false = h 0 (omega arith)
    in let by : (b : Bool) → not b ≡ false → cond b (words_from [] xs) (words_from (x ∷ []) xs) ≡ words_from [] (drop n xs)
    = λ b. elim b as (λ y. not y ≡ false → cond y (words_from [] xs) (words_from (x ∷ []) xs) ≡ words_from [] (drop n xs))
    [ true ↦ λ e. skip_blanks xs n (omega arith) (λ k i. h (suc k) (omega arith)) | false ↦ λ e. cc ]
    in by (nat_eq x 32) first

-- bytes that are no blanks go to the word that was begun
gather : (w xs : List ℕ) (n : ℕ) → n ≤ length xs → ((k : ℕ) → k < n → nat_eq (get_or xs k 0) 32 ≡ false)
    → words_from w xs ≡ words_from (w ++ take n xs) (drop n xs)
gather w xs zero l h = rw append-nil refl
gather w [] (suc n) l h = absurd (omega arith)
gather w (x ∷ xs) (suc n) l h =
    rw (h 0 (omega arith))
    (gather (w ++ x ∷ []) xs n (omega arith) (λ k i. h (suc k) (omega arith)) ∙ ap (λ v. words_from v (drop n xs)) (append_assoc w (x ∷ []) (take n xs)))

-- what a position of the first byte that passes a test says
pub record IsFirst (test : ℕ → Bool) (xs : List ℕ) (n : ℕ) : Type 0 where
  pub within : n < length xs
  pub passes : test (get_or xs n 0) ≡ true
  pub before : (k : ℕ) → k < n → test (get_or xs k 0) ≡ false

pub IsFirst-position : (test : ℕ → Bool) (xs : List ℕ) (n : ℕ) → position test xs ≡ Some n → IsFirst test xs n
IsFirst-position test xs n h =
    let parts : (n < length xs) × (test (get_or xs n 0) ≡ true) × ((k : ℕ) → k < n → test (get_or xs k 0) ≡ false) = position-Some test xs n 0 h
    in record { within = parts.0; passes = parts.1; before = parts.2 }

-- a position past the end, where no byte passes
past_end : (test : ℕ → Bool) (xs : List ℕ) → position test xs ≡ None → length xs ≤ position_or_len test xs
past_end test xs h =
    let n : ℕ = position_or_len test xs
    in let by : (b : Bool) → nat_lt n (length xs) ≡ b → cond b (Some n) None ≡ None → length xs ≤ n
    = λ b. elim b as (λ x. nat_lt n (length xs) ≡ x → cond x (Some n) None ≡ None → length xs ≤ n)
    [ true ↦ λ e none. cc | false ↦ λ e none. ltb-false n (length xs) e ]
    in by (nat_lt n (length xs)) refl h

pub NonePasses-position : (test : ℕ → Bool) (xs : List ℕ) → position test xs ≡ None → (k : ℕ) → k < length xs → test (get_or xs k 0) ≡ false
NonePasses-position test xs h = let past : length xs ≤ position_or_len test xs = past_end test xs h in λ k i. fails_before_first test xs k 0 (omega arith)

-- a line from the first byte on that passes, if one does
pub from_first-at : (test : ℕ → Bool) (xs : List ℕ) (i : ℕ) → Some i ≡ position test xs → take (length xs - i) (drop i xs) ≡ from_first test xs
from_first-at test xs i h =
    let at : position_or_len test xs ≡ i = grind (arith, common_steps)
    in let whole : take (length xs - i) (drop i xs) ≡ drop i xs = take_all _ _ (omega (arith, length-drop i xs))
    in whole ∙ ap (λ n. drop n xs) (sym at)

pub from_first-none : (test : ℕ → Bool) (xs : List ℕ) → None ≡ position test xs → [] ≡ from_first test xs
from_first-none test xs h = sym (drop_all (position_or_len test xs) xs (past_end test xs (sym h)))

pub words_of-none : (xs : List ℕ) → position (λ b. not (nat_eq b 32)) xs ≡ None → words_of xs ≡ []
words_of-none xs h =
    skip_blanks xs (length xs) (omega arith) (NonePasses-position (λ b. not (nat_eq b 32)) xs h)
    ∙ ap (λ l. words_of l) (drop_all (length xs) xs (omega arith))

-- a line that begins with a word
not_empty : (xs : List ℕ) (n : ℕ) → 0 < n → n ≤ length xs → take n xs ≢ []
not_empty [] n p l e = omega arith
not_empty (x ∷ xs) zero p l e = omega arith
not_empty (x ∷ xs) (suc n) p l e = cc

word_then-some : (w : List ℕ) (others : List (List ℕ)) → w ≢ [] → word_then w others ≡ w ∷ others
word_then-some [] others h = absurd (h refl)
word_then-some (b ∷ w) others h = refl

at_blank : (w xs : List ℕ) → w ≢ [] → 0 < length xs → nat_eq (get_or xs 0 0) 32 ≡ true → words_from w xs ≡ w ∷ words_of xs
at_blank w [] some l h = absurd (omega arith)
at_blank w (x ∷ xs) some l h = rw h (word_then-some w (words_from [] xs) some)

begins : (xs : List ℕ) → 0 < length xs → not (nat_eq (get_or xs 0 0) 32) ≡ true → nat_eq (get_or xs 0 0) 32 ≡ false
begins xs l h =
    let by : (b : Bool) → not b ≡ true → b ≡ false = λ b. elim b as (λ x. not x ≡ true → x ≡ false) [ true ↦ λ e. cc | false ↦ λ e. refl ]
    in by (nat_eq (get_or xs 0 0) 32) h

first_word : (xs : List ℕ) (e : ℕ) → 0 < length xs → nat_eq (get_or xs 0 0) 32 ≡ false → position (λ b. nat_eq b 32) xs ≡ Some e
    → words_of xs ≡ take e xs ∷ words_of (drop e xs)
first_word xs zero some other h =
    let first : IsFirst (λ b. nat_eq b 32) xs 0 = IsFirst-position (λ b. nat_eq b 32) xs 0 h
    in let here : nat_eq (get_or xs 0 0) 32 ≡ true = first.passes in cc
first_word xs (suc n) some other h =
    let e : ℕ = suc n
    in let first : IsFirst (λ b. nat_eq b 32) xs (suc n) = IsFirst-position (λ b. nat_eq b 32) xs (suc n) h
    in let within : suc n < length xs = first.within
    in let here : suc n + 0 ≡ suc n = omega arith
    in gather [] xs (suc n) (omega arith) first.before
    ∙ at_blank (take (suc n) xs) (drop (suc n) xs) (not_empty xs (suc n) (omega arith) (omega arith)) (omega (arith, length-drop (suc n) xs))
    (rw (get_or-drop (suc n) xs 0 0, here) first.passes)

only_word : (xs : List ℕ) → 0 < length xs → position (λ b. nat_eq b 32) xs ≡ None → words_of xs ≡ xs ∷ []
only_word xs some h =
    let all : take (length xs) xs ≡ xs = take_all (length xs) xs (omega arith)
    in let nothing : drop (length xs) xs ≡ [] = drop_all (length xs) xs (omega arith)
    in gather [] xs (length xs) (omega arith) (NonePasses-position (λ b. nat_eq b 32) xs h)
    ∙ rw (all, nothing) (word_then-some xs [] (λ e. let n : length xs ≡ 0 = ap (λ l. length l) e in omega arith))

-- the line from its first word on
from_word : (xs : List ℕ) (s : ℕ) → IsFirst (λ b. not (nat_eq b 32)) xs s → nat_eq (get_or (drop s xs) 0 0) 32 ≡ false
from_word xs s first =
    let within : s < length xs = first.within
    in let here : s + 0 ≡ s = omega arith
    in begins (drop s xs) (omega (arith, length-drop s xs)) (rw (get_or-drop s xs 0 0, here) first.passes)

pub words_of-word : (xs : List ℕ) (s e : ℕ) → position (λ b. not (nat_eq b 32)) xs ≡ Some s → position (λ b. nat_eq b 32) (drop s xs) ≡ Some e
    → words_of xs ≡ take e (drop s xs) ∷ words_of (drop e (drop s xs))
words_of-word xs s e h k =
    let first : IsFirst (λ b. not (nat_eq b 32)) xs s = IsFirst-position (λ b. not (nat_eq b 32)) xs s h
    in let within : s < length xs = first.within
    in skip_blanks xs s (omega arith) first.before ∙ first_word (drop s xs) e (omega (arith, length-drop s xs)) (from_word xs s first) k

pub words_of-last : (xs : List ℕ) (s : ℕ) → position (λ b. not (nat_eq b 32)) xs ≡ Some s → position (λ b. nat_eq b 32) (drop s xs) ≡ None
    → words_of xs ≡ drop s xs ∷ []
words_of-last xs s h k =
    let first : IsFirst (λ b. not (nat_eq b 32)) xs s = IsFirst-position (λ b. not (nat_eq b 32)) xs s h
    in let within : s < length xs = first.within
    in skip_blanks xs s (omega arith) first.before ∙ only_word (drop s xs) (omega (arith, length-drop s xs)) k
