-- Stretches of successive bytes among the places of single cells and runs.
use Rattle.std.proofs.Common.{◌≡◌, ◌<◌, ◌≤◌, ◌+◌, ◌++◌, ◌∙◌, ℕ, suc, Option, Some, None, List, [], ◌∷◌, Bool, true, false, refl, ap, sym, subst, take, drop, get_or, length, arith, nat_eq, if◌then◌else◌, eq-eqb}
use Rattle.std.proofs.lemmas.List.{drop_all, drop_more, length-append, length-drop, length-take-le, map-append}
use Rattle.s360_store.specs.declared.items.Item.{Item}
use Rattle.s360_store.specs.declared.items.Item.TheVariants.{Single, Run}
use Rattle.s360_store.specs.declared.place.Cell.{Cell}
use Rattle.s360_store.specs.declared.place.Place.{Place}
use Rattle.s360_store.specs.declared.place.Place.TheVariants.{Byte}
use Rattle.s360_store.specs.Cells.{byte_cells, places_of_cells}
use Rattle.s360_store.specs.Items.{cells_of_items}
use Rattle.s360_machine.specs.Rows.{ArePartsOf}
use Rattle.s360_machine.specs.Stretches.{begun_by, goes_on, next_after, stretches}
use Rattle.s360_machine.proofs.PackedLemmas.{fit-right, items-few}

-- bytes that go on, and a run
going-on : (a : ℕ) (bs : List ℕ) (ps : List Place) → stretches (Some a) (places_of_cells (byte_cells a bs) ++ ps) ≡ stretches (Some (a + length bs)) ps
going-on a [] ps = let same : a ≡ a + 0 = omega arith in ap (λ n. stretches (Some n) ps) same
going-on a (b ∷ bs) ps =
    let here : nat_eq a a ≡ true = eq-eqb a a refl
    in let sum : a + 1 + length bs ≡ a + suc (length bs) = omega arith
    in ap (λ t. (if t then 0 else 1) + stretches (Some (a + 1)) (places_of_cells (byte_cells (a + 1) bs) ++ ps)) here
    ∙ (let nought : 0 + stretches (Some (a + 1)) (places_of_cells (byte_cells (a + 1) bs) ++ ps) ≡ stretches (Some (a + 1)) (places_of_cells (byte_cells (a + 1) bs) ++ ps) = omega arith in nought) ∙ going-on (a + 1) bs ps ∙ ap (λ n. stretches (Some n) ps) sum

pub run-more : (next : Option ℕ) (a : ℕ) (bs : List ℕ) (ps : List Place) → 0 < length bs
    → stretches next (places_of_cells (byte_cells a bs) ++ ps) ≡ (if goes_on next a then 0 else 1) + stretches (Some (a + length bs)) ps
run-more next a [] ps l = absurd (omega (arith, l))
run-more next a (b ∷ bs) ps l =
    let sum : a + 1 + length bs ≡ a + suc (length bs) = omega arith
    in ap (λ n. (if goes_on next a then 0 else 1) + n) (going-on (a + 1) bs ps ∙ ap (λ n. stretches (Some n) ps) sum)

-- a place that is no byte
other-more : (p : Place) (next : Option ℕ) (ps : List Place) → ((a : ℕ) → p ≡ Byte a → ⊥) → stretches next (p ∷ ps) ≡ stretches None ps
other-more (Byte a) next ps h = absurd (h a refl)
other-more p next ps h = refl

-- the stretches of so many items, and what is left
pub record Stretching (is : List Item) (bs : List ℕ) (k count : ℕ) (next : Option ℕ) : Type 0 where
  pub bytes : List ℕ
  pub parts : ArePartsOf (drop k is) bytes
  pub left : stretches None (places_of_cells (cells_of_items is bs)) ≡ count + stretches next (places_of_cells (cells_of_items (drop k is) bytes))
  pub few : count ≤ k

pub stretching-begun : (is : List Item) (bs : List ℕ) → ArePartsOf is bs → Stretching is bs 0 0 None
stretching-begun is bs h =
    let nought : stretches None (places_of_cells (cells_of_items is bs)) ≡ 0 + stretches None (places_of_cells (cells_of_items is bs)) = omega arith
    in record { bytes = bs; parts = h; left = nought; few = omega arith }

-- a single cell more
stretching-single : (is : List Item) (bs : List ℕ) (k count : ℕ) (next : Option ℕ) (d : Item) (c : Cell) → k < length is → get_or is k d ≡ Single c
    → Stretching is bs k count next → Stretching is bs (k + 1) count None
stretching-single is bs k count next d c l g s =
    let here : drop k is ≡ Single c ∷ drop (k + 1) is = drop_more is k d l ∙ ap (λ (i : Item). i ∷ drop (k + 1) is) g
    in let parts : ArePartsOf (Single c ∷ drop (k + 1) is) s.bytes = rw here at s.parts
    in let no : (a : ℕ) → c.place ≡ Byte a → ⊥ = λ a e. let small : c.value < 256 = rw e at parts.fit.0 in omega (arith, parts.whole.0 a e, small)
    in record {
      bytes = s.bytes;
      parts = record { whole = parts.whole.1; all = omega (arith, parts.all); fit = parts.fit.1; few = omega (arith, parts.few) };
      left = s.left ∙ ap (λ js. count + stretches next (places_of_cells (cells_of_items js s.bytes))) here
          ∙ ap (λ n. count + n) (other-more c.place next (places_of_cells (cells_of_items (drop (k + 1) is) s.bytes)) no);
      few = omega (arith, s.few);
    }

at-most-one : (t : Bool) → (if t then 0 else 1) ≤ 1
at-most-one true = omega arith
at-most-one false = omega arith

-- a run more
stretching-run : (is : List Item) (bs : List ℕ) (k count more : ℕ) (next : Option ℕ) (d : Item) (a n : ℕ) → k < length is → get_or is k d ≡ Run a n
    → more ≡ (if goes_on next a then 0 else 1) → Stretching is bs k count next → Stretching is bs (k + 1) (count + more) (Some (a + n))
stretching-run is bs k count more next d a n l g m s =
    let here : drop k is ≡ Run a n ∷ drop (k + 1) is = drop_more is k d l ∙ ap (λ (i : Item). i ∷ drop (k + 1) is) g
    in let parts : ArePartsOf (Run a n ∷ drop (k + 1) is) s.bytes = rw here at s.parts
    in let many : length (take n s.bytes) ≡ n = length-take-le n s.bytes (omega (arith, parts.all))
    in let js : List Item = drop (k + 1) is
    in let rest : List ℕ = drop n s.bytes
    in let split : places_of_cells (cells_of_items (Run a n ∷ js) s.bytes) ≡ places_of_cells (byte_cells a (take n s.bytes)) ++ places_of_cells (cells_of_items js rest)
    = map-append (λ (c : Cell). c.place) (byte_cells a (take n s.bytes)) (cells_of_items js rest)
    in let step : stretches next (places_of_cells (cells_of_items (Run a n ∷ js) s.bytes)) ≡ more + stretches (Some (a + n)) (places_of_cells (cells_of_items js rest))
    = ap (λ ps. stretches next ps) split ∙ run-more next a (take n s.bytes) (places_of_cells (cells_of_items js rest)) (omega (arith, many, parts.whole.0.0))
    ∙ ap (λ j. (if goes_on next a then 0 else 1) + stretches (Some (a + j)) (places_of_cells (cells_of_items js rest))) many
    ∙ ap (λ j. j + stretches (Some (a + n)) (places_of_cells (cells_of_items js rest))) (sym m)
    in let one : more ≤ 1 = rw m (at-most-one (goes_on next a))
    in record {
      bytes = rest;
      parts = record {
        whole = parts.whole.1;
        all = omega (arith, parts.all, length-drop n s.bytes);
        fit = fit-right (byte_cells a (take n s.bytes)) (cells_of_items js rest) parts.fit;
        few = omega (arith, parts.few, length-append (byte_cells a (take n s.bytes)) (cells_of_items js rest));
      };
      left = s.left ∙ ap (λ ks. count + stretches next (places_of_cells (cells_of_items ks s.bytes))) here ∙ ap (λ j. count + j) step
          ∙ (let sum : count + (more + stretches (Some (a + n)) (places_of_cells (cells_of_items js rest))) ≡ count + more + stretches (Some (a + n)) (places_of_cells (cells_of_items js rest)) = omega arith in sum);
      few = omega (arith, s.few, one);
    }

pub stretching-more : (is : List Item) (bs : List ℕ) (k count more : ℕ) (next after : Option ℕ) (d i : Item) → k < length is → get_or is k d ≡ i → more ≡ begun_by next i → after ≡ next_after i
    → Stretching is bs k count next → Stretching is bs (k + 1) (count + more) after
stretching-more is bs k count more next after d (Single c) l g m a s =
    let same : count ≡ count + more = omega (arith, m)
    in subst (λ o. Stretching is bs (k + 1) (count + more) o) (sym a) (subst (λ n. Stretching is bs (k + 1) n None) same (stretching-single is bs k count next d c l g s))
stretching-more is bs k count more next after d (Run address n) l g m a s =
    subst (λ o. Stretching is bs (k + 1) (count + more) o) (sym a) (stretching-run is bs k count more next d address n l g m s)

pub items-below : (is : List Item) (bs : List ℕ) → ArePartsOf is bs → length is ≤ 1000001
items-below is bs h = omega (arith, items-few is bs h.whole h.all, h.few)

pub stretching-all : (is : List Item) (bs : List ℕ) (k count : ℕ) (next : Option ℕ) → length is ≤ k → Stretching is bs k count next → count ≡ stretches None (places_of_cells (cells_of_items is bs))
stretching-all is bs k count next l s =
    let none : drop k is ≡ [] = drop_all k is l
    in let left : stretches None (places_of_cells (cells_of_items is bs)) ≡ count + 0 = s.left ∙ ap (λ js. count + stretches next (places_of_cells (cells_of_items js s.bytes))) none
    in omega (arith, left)
