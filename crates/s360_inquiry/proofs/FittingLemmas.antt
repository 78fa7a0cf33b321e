-- How many items are left from one on.
use Rattle.std.proofs.Common.{◌≡◌, ◌≤◌, ◌<◌, ◌+◌, ◌-◌, ◌++◌, ◌∙◌, ℕ, List, [], ◌∷◌, ap, sym, codes, drop, get_or, length, length-drop}
use Rattle.std.proofs.lemmas.List.{drop_all, drop_more}
use Rattle.s360_text.specs.Counts.{counted}
use Rattle.s360_inquiry.specs.Fitting.{more_words}

pub more-some : (items : List (List ℕ)) (i : ℕ) (none some text : List ℕ) → i < length items → none ≡ []
    → some ≡ none ++ counted (codes " and ") (length items - i) → text ≡ some ++ codes " more" → text ≡ more_words (drop i items)
more-some items i none some text inside empty counts is =
    let here : drop i items ≡ get_or items i [] ∷ drop (i + 1) items = drop_more items i [] inside
    in let left : length items - i ≡ length (get_or items i [] ∷ drop (i + 1) items) = sym (length-drop i items) ∙ ap length here
    in is
    ∙ ap (λ (x : List ℕ). x ++ codes " more") (counts ∙ ap (λ (x : List ℕ). x ++ counted (codes " and ") (length items - i)) empty)
    ∙ ap (λ (n : ℕ). counted (codes " and ") n ++ codes " more") left
    ∙ sym (ap more_words here)

pub more-none : (items : List (List ℕ)) (i : ℕ) (text : List ℕ) → length items ≤ i → text ≡ [] → text ≡ more_words (drop i items)
more-none items i text none is = is ∙ sym (ap more_words (drop_all i items none))
