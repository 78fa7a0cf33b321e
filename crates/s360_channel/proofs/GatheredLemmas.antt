-- Gathered bytes compared from the last to the first.
use Rattle.std.proofs.Common.{◌≡◌, ◌∙◌, ℕ, List, reverse, sym, ap, bytes_eq, Decides}
use Rattle.std.proofs.lemmas.Bool.Decides.{Decides-like, same_from_decides}
use Rattle.std.proofs.lemmas.List.{reverse-reverse}
use Rattle.std.proofs.lemmas.Slice.Eq.{bytes_eq-Decides}

-- lists are the same just where they are backwards
backward-Decides : (xs ys : List ℕ) → Decides (bytes_eq (reverse xs) (reverse ys)) (xs ≡ ys)
backward-Decides xs ys = Decides-like (bytes_eq (reverse xs) (reverse ys))
    (λ e. sym (reverse-reverse xs) ∙ ap reverse e ∙ reverse-reverse ys)
    (λ e. ap reverse e)
    (bytes_eq-Decides (reverse xs) (reverse ys))

pub backward_eq : (xs ys : List ℕ) → bytes_eq (reverse xs) (reverse ys) ≡ bytes_eq xs ys
backward_eq xs ys = same_from_decides (bytes_eq (reverse xs) (reverse ys)) (bytes_eq xs ys) (backward-Decides xs ys) (bytes_eq-Decides xs ys)
