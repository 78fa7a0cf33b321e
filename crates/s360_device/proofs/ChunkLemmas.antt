-- The pieces of one length that a list begins with.
use Rattle.std.proofs.Common.{◌≡◌, ◌≤◌, ◌+◌, ◌*◌, ◌/◌, ◌%◌, ◌∙◌, ℕ, zero, suc, List, ◌++◌, length, take, drop, refl, ap, arith, length-take, length-drop, take_all}
use Rattle.std.proofs.Math.Seq.{take-add}
use Rattle.std.specs.List.{All, concat}
use Rattle.std.proofs.lemmas.List.Elements.{All-nil, All-cons}
use Rattle.std.specs.Simd.{first_chunks}
use Rattle.s360_model.specs.Cards.{columns, AreCards, IsDeckFile}

-- each has the length
pub All-first_chunks : (n k : ℕ) (xs : List ℕ) → k * n ≤ length xs → All (λ piece. length piece ≡ n) (first_chunks n k xs)
All-first_chunks n zero xs h = All-nil (λ (piece : List ℕ). length piece ≡ n)
All-first_chunks n (suc k) xs h =
    let first : length (take n xs) ≡ n = simp length-take (omega arith)
    in let rest : k * n ≤ length (drop n xs) = simp length-drop (omega arith)
    in All-cons (λ (piece : List ℕ). length piece ≡ n) (take n xs) (first_chunks n k (drop n xs)) first (All-first_chunks n k (drop n xs) rest)

-- joined, they are what the list begins with
pub concat-first_chunks : (n k : ℕ) (xs : List ℕ) → concat (first_chunks n k xs) ≡ take (k * n) xs
concat-first_chunks n zero xs = let e : zero * n ≡ 0 = omega arith in rw e refl
concat-first_chunks n (suc k) xs =
    let e : suc k * n ≡ n + k * n = omega arith
    in rw (e, take-add n (k * n) xs) (ap (λ rest. take n xs ++ rest) (concat-first_chunks n k (drop n xs)))

-- a file that its whole cards fill is the file of their deck
pub IsDeckFile-first_chunks : (file : List ℕ) (cards : List (List ℕ)) → cards ≡ first_chunks columns (length file / columns) file → length file % columns ≡ 0 → IsDeckFile file cards
IsDeckFile-first_chunks file cards e h =
    let n : ℕ = length file / columns
    in let k : n * columns ≡ length file = omega arith
    in let whole : AreCards (first_chunks columns n file) = All-first_chunks columns n file (omega arith)
    in let joined : concat (first_chunks columns n file) ≡ file = concat-first_chunks columns n file ∙ ap (λ i. take i file) k ∙ take_all (length file) file (omega arith)
    in rw e (record { whole = whole; joined = joined })
