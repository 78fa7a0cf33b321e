-- Numbers of changes, each once.
use Rattle.std.proofs.Common.{◌≡◌, ◌<◌, ◌+◌, ◌∷◌, ℕ, List, [], ap, sym, ◌∙◌, get_or, length, take}
use Rattle.std.proofs.lemmas.List.{take_more}
use Rattle.std.proofs.lemmas.Grind.{fold-append}
use Rattle.std.specs.BTreeSet.{insert_key}
use Rattle.std.specs.Ordering.{nat_cmp}
use Rattle.s360_inquiry.specs.Counts.{with_numbers}

-- a number more of a list
pub number-more : (old keys new ns : List ℕ) (i n d : ℕ) → i < length ns → n ≡ get_or ns i d
    → keys ≡ with_numbers old (take i ns) → new ≡ insert_key nat_cmp keys n → new ≡ with_numbers old (take (i + 1) ns)
number-more old keys new ns i n d inside is before after =
    after
    ∙ ap (λ (ks : List ℕ). insert_key nat_cmp ks n) before
    ∙ ap (λ (x : ℕ). insert_key nat_cmp (with_numbers old (take i ns)) x) is
    ∙ sym (fold-append (insert_key nat_cmp) old (take i ns) (get_or ns i d ∷ []))
    ∙ ap (λ (xs : List ℕ). with_numbers old xs) (sym (take_more ns i d inside))
