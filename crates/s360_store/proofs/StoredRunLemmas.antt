-- Bytes where a run is stored.
use Rattle.std.proofs.Common.{◌≡◌, ◌<◌, ◌≤◌, ◌+◌, ◌-◌, ◌++◌, ℕ, List, ap, ◌∙◌, take, drop, get_or, length, arith}
use Rattle.std.proofs.lemmas.List.{append_assoc, get_or-append_right, get_or-drop, get_or-take, get_or_append_left, length-append, length-drop, length-take-le}
use Rattle.s360_model.specs.Storage.{with_run}

pub length-with_run : (xs run : List ℕ) (at : ℕ) → at + length run ≤ length xs → length (with_run xs at run) ≡ length xs
length-with_run xs run at h =
    length-append (take at xs ++ run) (drop (at + length run) xs)
    ∙ (let front : length (take at xs) ≡ at = length-take-le at xs (omega arith)
    in omega (arith, length-append (take at xs) run, front, length-drop (at + length run) xs, h))

-- a byte of a run that is stored, and one beside it
pub run-inside : (xs run : List ℕ) (at a : ℕ) → at + length run ≤ length xs → at ≤ a → a < at + length run → get_or (with_run xs at run) a 0 ≡ get_or run (a - at) 0
run-inside xs run at a h l u =
    let front : length (take at xs) ≡ at = length-take-le at xs (omega arith)
    in rw (append_assoc (take at xs) run (drop (at + length run) xs), get_or-append_right (take at xs) (run ++ drop (at + length run) xs) at a 0 front l)
    (get_or_append_left run (drop (at + length run) xs) 0 (a - at) (omega arith))

pub run-before : (xs run : List ℕ) (at a : ℕ) → at + length run ≤ length xs → a < at → get_or (with_run xs at run) a 0 ≡ get_or xs a 0
run-before xs run at a h l =
    let front : length (take at xs) ≡ at = length-take-le at xs (omega arith)
    in rw (append_assoc (take at xs) run (drop (at + length run) xs), get_or_append_left (take at xs) (run ++ drop (at + length run) xs) 0 a (omega (arith, front)))
    (get_or-take at xs a 0 l)

pub run-after : (xs run : List ℕ) (at a : ℕ) → at + length run ≤ length xs → at + length run ≤ a → get_or (with_run xs at run) a 0 ≡ get_or xs a 0
run-after xs run at a h l =
    let front : length (take at xs) ≡ at = length-take-le at xs (omega arith)
    in let both : length (take at xs ++ run) ≡ at + length run = omega (arith, length-append (take at xs) run, front)
    in let there : at + length run + (a - (at + length run)) ≡ a = omega arith
    in get_or-append_right (take at xs ++ run) (drop (at + length run) xs) (at + length run) a 0 both l
    ∙ get_or-drop (at + length run) xs (a - (at + length run)) 0 ∙ ap (λ i. get_or xs i 0) there
