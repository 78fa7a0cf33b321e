use Rattle.std.proofs.Common.{◌≡◌, ◌<◌, ◌-◌, ◌∙◌, ℕ, zero, suc, List, ◌∷◌, ap, length, arith, slice_get}
use Rattle.s360_store.specs.declared.place.Place.{Place}
use Rattle.s360_store.specs.Cells.{byte_cells, places_of_cells}
use Rattle.s360_store.specs.Items.{cells_of_items, cells_of_part}
use Rattle.s360_store.proofs.ByteCellLemmas.{length-byte_cells}
use Rattle.s360_store.proofs.SpanLemmas.{byte_places-get, places-of-bytes}
use Rattle.s360_machine.proofs.SpanLemmas.{place-of-part}
use Rattle.s360_machine.proofs.row.PackedRow.place.Goals as goal

pub overflow_add-result : goal.overflow_add-result
overflow_add-result c =
    let over = rw c.in-Bytes.is at c.requires.over
    in let inside = rw c.in-Bytes.is at c.requires.inside
    in omega (arith, over.1, over.3, inside, length-byte_cells c.in-Bytes.address c.args.bytes.now)

pub returns-in-More : goal.returns-in-More
returns-in-More c =
    rw c.in-More.is (place-of-part (cells_of_items c.args.items.now c.args.bytes.now) (cells_of_part c.part_at.result) c.args.i c.first.result c.part_at.ensures.is c.part_at.ensures.some c.first.ensures)

behind : (p : Place) (ps : List Place) (i : ℕ) → 0 < i → slice_get (p ∷ ps) i ≡ slice_get ps (i - 1)
behind p ps zero l = absurd (omega (arith, l))
behind p ps (suc i) l = let same : i ≡ suc i - 1 = omega arith in ap (slice_get ps) same

pub returns-in-Bytes : goal.returns-in-Bytes
returns-in-Bytes c =
    let over = rw c.in-Bytes.is at c.requires.over
    in let inside = rw c.in-Bytes.is at c.requires.inside
    in let bs : List ℕ = c.args.bytes.now
    in let at : ℕ = c.args.i - 1
    in let within : at < length bs = omega (arith, inside, c.if-i-gt0.true, length-byte_cells c.in-Bytes.address bs)
    in rw c.in-Bytes.is (behind _ (places_of_cells (byte_cells c.in-Bytes.address bs)) c.args.i c.if-i-gt0.true
    ∙ ap (λ (ps : List Place). slice_get ps at) (places-of-bytes c.in-Bytes.address bs) ∙ byte_places-get c.in-Bytes.address (length bs) at within)
