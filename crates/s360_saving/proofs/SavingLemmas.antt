-- Lists that are saved item by item.
use Rattle.std.proofs.Common.{◌≡◌, ◌<◌, ◌+◌, ◌++◌, ◌∙◌, ℕ, suc, List, [], ◌∷◌, Option, Some, None, ap, sym, subst, refl, arith, length, get_or, take, drop, append_assoc, flat_map, slice_get}
use Rattle.std.proofs.Math.Seq.{drop-cons}
use Rattle.std.proofs.lemmas.Option.{get_or_from_slice_get, slice_get-get_or, slice_get_within}
use Rattle.s360_language.proofs.ShownLemmas.{told-more}
use Rattle.s360_device.specs.Items.{item_in}
use Rattle.s360_print.specs.declared.paper.Record.{Record}
use Rattle.s360_saving.specs.declared.feeds.PageLine.{PageLine}
use Rattle.s360_saving.specs.Pages.{line_of_record, pages_from, parting, place_of}

-- an item by its number, which is one more than its place
pub item_in-next : {X : Type 0} (xs : List X) (i : ℕ) → item_in xs (i + 1) ≡ slice_get xs i
item_in-next xs i = let next : suc i ≡ i + 1 = omega arith in subst (λ n. item_in xs n ≡ slice_get xs i) next refl

-- each place of a list has an item
pub is_there : {X : Type 0} (xs : List X) (i : ℕ) (x : X) → slice_get xs i ≡ Some x → get_or xs i x ≡ x
is_there xs i x at = get_or_from_slice_get xs i x x at

-- no place of a list is without an item
pub no_item : {X : Type 0} (xs : List X) (i : ℕ) → i < length xs → None ≡ item_in xs (i + 1) → ⊥
no_item [] i inside none = absurd (omega (arith, inside))
no_item (x ∷ xs) i inside none =
    let there : slice_get (x ∷ xs) i ≡ Some (get_or (x ∷ xs) i x) = slice_get-get_or (x ∷ xs) i x inside
    in let lacks : None ≡ slice_get (x ∷ xs) i = none ∙ item_in-next (x ∷ xs) i
    in cc

-- one item more, after a text
pub told-item : {X : Type 0} (told : X → List ℕ) (xs : List X) (i : ℕ) (x : X) (old text new : List ℕ) → item_in xs (i + 1) ≡ Some x
    → text ≡ old ++ flat_map told (take i xs) → new ≡ text ++ told x → new ≡ old ++ flat_map told (take (i + 1) xs)
told-item told xs i x old text new item h k =
    let at : slice_get xs i ≡ Some x = sym (item_in-next xs i) ∙ item
    in told-more told xs i x old text new (slice_get_within xs i x at) h (k ∙ ap (λ y. text ++ told y) (sym (is_there xs i x at)))

-- what is left from an item on
drop_at : {X : Type 0} (xs : List X) (i : ℕ) (x : X) → slice_get xs i ≡ Some x → drop i xs ≡ x ∷ drop (i + 1) xs
drop_at xs i x at =
    let inside : i < length xs = slice_get_within xs i x at
    in let next : suc i ≡ i + 1 = omega arith
    in subst (λ n. drop i xs ≡ x ∷ drop n xs) next (drop-cons xs i x inside ∙ ap (λ y. y ∷ drop (suc i) xs) (is_there xs i x at))

-- one line more
pub pages-next : (records : List Record) (i : ℕ) (r : Record) (before : Option PageLine) (text whole : List ℕ) → item_in records (i + 1) ≡ Some r
    → text ++ pages_from before (drop i records) ≡ whole
    → (text ++ (parting before (place_of r) ++ line_of_record r)) ++ pages_from (Some (place_of r)) (drop (i + 1) records) ≡ whole
pages-next records i r before text whole item h =
    let at : slice_get records i ≡ Some r = sym (item_in-next records i) ∙ item
    in append_assoc text (parting before (place_of r) ++ line_of_record r) (pages_from (Some (place_of r)) (drop (i + 1) records))
    ∙ (ap (λ rs. text ++ pages_from before rs) (sym (drop_at records i r at)) ∙ h)
