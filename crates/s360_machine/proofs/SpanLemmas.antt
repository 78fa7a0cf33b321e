-- The places of a change as spans.
use Rattle.std.proofs.Common.{◌≡◌, ◌<◌, ◌≤◌, ◌+◌, ◌++◌, ◌∙◌, ℕ, zero, suc, Bool, Option, Some, None, List, [], ◌∷◌, refl, ap, sym, map, drop, length, arith, slice_get}
use Rattle.std.proofs.lemmas.List.{append_assoc, drop-map, length-drop, map-append}
use Rattle.s360_store.specs.declared.place.Place.{Place}
use Rattle.s360_store.specs.declared.place.Place.TheVariants.{Psw as psw_place}
use Rattle.s360_store.specs.declared.place.Cell.{Cell}
use Rattle.s360_store.specs.declared.items.Item.{Item}
use Rattle.s360_store.specs.declared.items.Item.TheVariants.{Single, Run}
use Rattle.s360_store.specs.declared.span.Span.{Span}
use Rattle.s360_store.specs.declared.span.Span.TheVariants.{Place as OnePlace}
use Rattle.s360_store.specs.Cells.{places_of_cells}
use Rattle.s360_store.specs.Items.{AreItems, bytes_of_item, bytes_of_items, cells_of_item, cells_of_items}
use Rattle.s360_store.specs.Spans.{AreSpans, byte_places, places_of_span, places_of_spans, span_of_item}
use Rattle.s360_store.proofs.SpanLemmas.{places-of-bytes, places-of-run}
use Rattle.s360_machine.specs.declared.beside.Beside.{Beside}
use Rattle.s360_machine.specs.declared.row.PackedRow.{PackedRow}
use Rattle.s360_machine.specs.declared.row.PackedRow.TheVariants.{Nothing, Psw, Register, Bytes, More}
use Rattle.s360_machine.specs.Beside.{places_of_beside}
use Rattle.s360_machine.specs.Change.{Change}
use Rattle.s360_machine.specs.ChangeSpans.{AreSpansOf, spans_beside, spans_of_row}
use Rattle.s360_machine.specs.Changes.{change_with}
use Rattle.s360_machine.specs.Packed.{change_of_row, lists}
use Rattle.s360_machine.specs.Rows.{HasNoMore, IsOver, beside_of_row}

-- spans joined
pub AreSpans-append : (ss ts : List Span) → AreSpans ss → AreSpans ts → AreSpans (ss ++ ts)
AreSpans-append [] ts h k = k
AreSpans-append (s ∷ ss) ts h k = (h.0, AreSpans-append ss ts h.1 k)

pub places_of_spans-append : (ss ts : List Span) → places_of_spans (ss ++ ts) ≡ places_of_spans ss ++ places_of_spans ts
places_of_spans-append [] ts = refl
places_of_spans-append (s ∷ ss) ts =
    ap (λ (ps : List Place). places_of_span s ++ ps) (places_of_spans-append ss ts) ∙ sym (append_assoc (places_of_span s) (places_of_spans ss) (places_of_spans ts))

-- those of items
AreSpans-items : (is : List Item) → AreItems is → AreSpans (map (λ i. span_of_item i) is)
AreSpans-items [] h = tt
AreSpans-items (Single c ∷ is) h = (tt, AreSpans-items is h.1)
AreSpans-items (Run address count ∷ is) h = (h.0, AreSpans-items is h.1)

places-of-item : (i : Item) (bs : List ℕ) → bytes_of_item i ≤ length bs → places_of_span (span_of_item i) ≡ places_of_cells (cells_of_item i bs)
places-of-item (Single c) bs l = refl
places-of-item (Run address count) bs l = places-of-run address count bs l

places-of-items : (is : List Item) (bs : List ℕ) → bytes_of_items is ≤ length bs → places_of_spans (map (λ i. span_of_item i) is) ≡ places_of_cells (cells_of_items is bs)
places-of-items [] bs l = refl
places-of-items (i ∷ is) bs l =
    let rest : List ℕ = drop (bytes_of_item i) bs
    in ap (λ (ps : List Place). ps ++ places_of_spans (map (λ j. span_of_item j) is)) (places-of-item i bs (omega (arith, l)))
    ∙ ap (λ (ps : List Place). places_of_cells (cells_of_item i bs) ++ ps) (places-of-items is rest (omega (arith, l, length-drop (bytes_of_item i) bs)))
    ∙ sym (map-append (λ (c : Cell). c.place) (cells_of_item i bs) (cells_of_items is rest))

-- single places
AreSpans-places : (ps : List Place) → AreSpans (map (λ p. OnePlace p) ps)
AreSpans-places [] = tt
AreSpans-places (p ∷ ps) = (tt, AreSpans-places ps)

places-of-places : (ps : List Place) → places_of_spans (map (λ p. OnePlace p) ps) ≡ ps
places-of-places [] = refl
places-of-places (p ∷ ps) = ap (λ (qs : List Place). p ∷ qs) (places-of-places ps)

pub no-more : (r : PackedRow) → ((beside : Bool) (items bytes count : ℕ) → r ≡ More beside items bytes count → ⊥) → HasNoMore r
no-more (More beside items bytes count) h = absurd (h beside items bytes count refl)
no-more r h = tt

-- those of a change that stands within its row
pub within-own : (r : PackedRow) (is : List Item) (bs : List ℕ) (xs : List Beside) (x : Change) → HasNoMore r → IsOver r is bs → length xs ≡ beside_of_row r → change_of_row r (lists is bs xs) ≡ x → AreSpansOf (spans_of_row r) x
within-own Nothing is bs [] x w h n e = rw (← e) (record { whole = tt; places = refl })
within-own (Psw psw) is bs [] x w h n e = rw (← e) (record { whole = (tt, tt); places = refl })
within-own (Register number word psw) is bs [] x w h n e = rw (← e) (record { whole = (tt, (tt, tt)); places = refl })
within-own (Bytes count address psw) is bs [] x w h n e = rw (← e) (record {
  whole = (tt, ((h.2, h.3), tt));
  places = ap (λ (ps : List Place). psw_place ∷ (ps ++ [])) (ap (λ k. byte_places address k) (sym h.1) ∙ sym (places-of-bytes address bs));
})
within-own Nothing is bs (y ∷ ys) x w h n e = absurd (omega (arith, n))
within-own (Psw psw) is bs (y ∷ ys) x w h n e = absurd (omega (arith, n))
within-own (Register number word psw) is bs (y ∷ ys) x w h n e = absurd (omega (arith, n))
within-own (Bytes count address psw) is bs (y ∷ ys) x w h n e = absurd (omega (arith, n))
within-own (More beside items bytes count) is bs xs x w h n e = absurd w

-- and of one that stands apart
pub apart-own : (beside : Bool) (items bytes count : ℕ) (is : List Item) (bs : List ℕ) (xs : List Beside) (x : Change) → IsOver (More beside items bytes count) is bs
    → change_of_row (More beside items bytes count) (lists is bs xs) ≡ x → AreSpansOf (map (λ i. span_of_item i) is ++ spans_beside (slice_get xs 0) 0) x
apart-own beside items bytes count is bs xs x h e =
    let whole : AreSpans (map (λ i. span_of_item i) is) = AreSpans-items is h.3.whole
    in let core : places_of_spans (map (λ i. span_of_item i) is) ≡ places_of_cells (cells_of_items is bs) = places-of-items is bs (omega (arith, h.3.all))
    in let by : (b : Option Beside) → AreSpansOf (map (λ i. span_of_item i) is ++ spans_beside b 0) (change_with (cells_of_items is bs) b)
    = λ b. elim b as (λ c. AreSpansOf (map (λ i. span_of_item i) is ++ spans_beside c 0) (change_with (cells_of_items is bs) c)) [
      | None ↦ record {
        whole = AreSpans-append (map (λ i. span_of_item i) is) [] whole tt;
        places = places_of_spans-append (map (λ i. span_of_item i) is) [] ∙ ap (λ (ps : List Place). ps ++ []) core;
      }
      | Some y ↦ record {
        whole = AreSpans-append (map (λ i. span_of_item i) is) (map (λ p. OnePlace p) (places_of_beside y)) whole (AreSpans-places (places_of_beside y));
        places = places_of_spans-append (map (λ i. span_of_item i) is) (map (λ p. OnePlace p) (places_of_beside y))
            ∙ ap (λ (ps : List Place). ps ++ places_of_spans (map (λ p. OnePlace p) (places_of_beside y))) core
            ∙ ap (λ (ps : List Place). places_of_cells (cells_of_items is bs) ++ ps) (places-of-places (places_of_beside y));
      }
    ]
    in rw (← e) (by (slice_get xs 0))

-- the place of a part's first cell
first-place : (cs ds : List Cell) (p : Place) → 0 < length cs → slice_get (places_of_cells cs) 0 ≡ Some p → slice_get (places_of_cells (cs ++ ds)) 0 ≡ Some p
first-place [] ds p l h = absurd (omega (arith, l))
first-place (c ∷ cs) ds p l h = h

first-there : (ps : List Place) (i : ℕ) → slice_get ps i ≡ slice_get (drop i ps) 0
first-there [] zero = refl
first-there [] (suc i) = refl
first-there (p ∷ ps) zero = refl
first-there (p ∷ ps) (suc i) = first-there ps i

pub place-of-part : (cs part : List Cell) (i : ℕ) (p : Place) → drop i cs ≡ part ++ drop (i + length part) cs → 0 < length part → slice_get (places_of_cells part) 0 ≡ Some p
    → slice_get (places_of_cells cs) i ≡ Some p
place-of-part cs part i p is some first =
    first-there (places_of_cells cs) i ∙ ap (λ (ps : List Place). slice_get ps 0) (drop-map (λ (c : Cell). c.place) i cs ∙ ap places_of_cells is) ∙ first-place part (drop (i + length part) cs) p some first
