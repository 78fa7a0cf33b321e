-- A part of bytes that are given backward.
use Rattle.std.proofs.Common.{◌≡◌, ◌≤◌, ◌+◌, ◌-◌, ◌++◌, ℕ, List, ap, ◌∙◌, take, drop, length, reverse, arith}
use Rattle.std.proofs.lemmas.List.{append_assoc, drop_at, length-drop, length-reverse, length-take-le, reverse-append, take-append-drop, take_at}

parts-reversed : (heads bs cs : List ℕ) (n f : ℕ) → length bs ≡ n → length cs ≡ f → take n (drop f (reverse (heads ++ (bs ++ cs)))) ≡ reverse bs
parts-reversed heads bs cs n f b c =
    let joined : reverse (heads ++ (bs ++ cs)) ≡ reverse cs ++ (reverse bs ++ reverse heads)
    = reverse-append heads (bs ++ cs) ∙ ap (λ (l : List ℕ). l ++ reverse heads) (reverse-append bs cs) ∙ append_assoc (reverse cs) (reverse bs) (reverse heads)
    in let late : drop f (reverse cs ++ (reverse bs ++ reverse heads)) ≡ reverse bs ++ reverse heads = drop_at (reverse cs) (reverse bs ++ reverse heads) f (length-reverse cs ∙ c)
    in rw (joined, late) (take_at (reverse bs) (reverse heads) n (length-reverse bs ∙ b))

-- it is the part that stands as far from the other end, reversed
pub part-reversed : (xs : List ℕ) (f n : ℕ) → f + n ≤ length xs → take n (drop f (reverse xs)) ≡ reverse (take n (drop (length xs - f - n) xs))
part-reversed xs f n l =
    let a : ℕ = length xs - f - n
    in let whole : take a xs ++ (take n (drop a xs) ++ drop n (drop a xs)) ≡ xs
    = ap (λ (r : List ℕ). take a xs ++ r) (take-append-drop n (drop a xs)) ∙ take-append-drop a xs
    in let b : length (take n (drop a xs)) ≡ n = length-take-le n (drop a xs) (omega (arith, length-drop a xs, l))
    in let c : length (drop n (drop a xs)) ≡ f = omega (arith, length-drop n (drop a xs), length-drop a xs, l)
    in rw whole at (parts-reversed (take a xs) (take n (drop a xs)) (drop n (drop a xs)) n f b c)
