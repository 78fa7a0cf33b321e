-- The last event of a list.
use Rattle.std.proofs.Common.{◌≡◌, ◌-◌, ◌++◌, ◌∙◌, List, [], ◌∷◌, Some, ap, sym, reverse, length, arith, slice_get}
use Rattle.std.proofs.lemmas.List.{length-append, reverse-append}
use Rattle.s360_machine.specs.declared.event.Event.{Event}
use Rattle.s360_journal.specs.Standing.{last_of}
use Rattle.s360_journal.proofs.HistoryLemmas.{last-split}
use Rattle.s360_journal.proofs.SessionLemmas.{last-there}

pub newest-first : {X : Type 0} (xs : List X) (x : X) → Some x ≡ slice_get xs (length xs - 1) → (ys : List X) × (reverse xs ≡ x ∷ ys)
newest-first xs x h =
    let split : (ys : List _) × (xs ≡ ys ++ x ∷ []) = last-split xs x (sym h)
    in (reverse split.0, ap (λ l. reverse l) split.1 ∙ reverse-append split.0 (x ∷ []))

pub last-newest : (e : Event) (es : List Event) → last_of (reverse (e ∷ es)) ≡ Some e
last-newest e es =
    let turned : reverse (e ∷ es) ≡ reverse es ++ e ∷ [] = reverse-append (e ∷ []) es
    in let last : length (reverse es ++ e ∷ []) - 1 ≡ length (reverse es) = omega (arith, length-append (reverse es) (e ∷ []))
    in ap (λ l. last_of l) turned ∙ ap (λ n. slice_get (reverse es ++ e ∷ []) n) last ∙ last-there (reverse es) e
