-- The places of a change that can be exchanged with a machine are places that some machine has.
use Rattle.std.proofs.Common.{◌<◌, ◌≤◌, ◌+◌, ◌++◌, ℕ, zero, suc, Option, Some, None, List, [], ◌∷◌, length, map, arith}
use Rattle.s360_model.specs.Core.{Core}
use Rattle.s360_store.specs.declared.place.Cell.{Cell}
use Rattle.s360_store.specs.declared.place.Place.{Place}
use Rattle.s360_store.specs.declared.place.Place.TheVariants.{Byte}
use Rattle.s360_store.specs.declared.span.Span.{Span}
use Rattle.s360_store.specs.declared.span.Span.TheVariants.{Place as OnePlace, Bytes}
use Rattle.s360_store.specs.Cells.{AreCellsOf, places_of_cells}
use Rattle.s360_store.specs.Places.{IsPlaceOf}
use Rattle.s360_store.specs.Spans.{AreSpans, IsSpan, byte_places, places_of_span, places_of_spans}
use Rattle.s360_index.specs.Sizes.{AreSpansWithinSize, AreWithinSize, IsSpanWithinSize, IsWithinSize}
use Rattle.s360_channel.specs.declared.configured_unit.ConfiguredUnit.{ConfiguredUnit}
use Rattle.s360_channel.specs.declared.unit_change.UnitChange.{UnitChange}
use Rattle.s360_channel.specs.UnitChanges.{state_place}
use Rattle.s360_channel.specs.UnitChanges.{altered_by, places_of_units}
use Rattle.s360_machine.specs.declared.media.MediaChange.{MediaChange}
use Rattle.s360_machine.specs.Change.{CanSwap, Change, places_of_change}
use Rattle.s360_machine.specs.ChangeSpans.{AreSpansOf}
use Rattle.s360_machine.specs.ControlCells.{ControlCell, external, places_of_control, run}
use Rattle.s360_machine.specs.IoChanges.{places_of_media}
use Rattle.s360_machine.specs.Machine.{Whole}

-- places joined
AreWithinSize-append : (ps qs : List Place) → AreWithinSize ps → AreWithinSize qs → AreWithinSize (ps ++ qs)
AreWithinSize-append [] qs h k = k
AreWithinSize-append (p ∷ ps) qs h k = (h.0, AreWithinSize-append ps qs h.1 k)

AreWithinSize-parts : (ps qs : List Place) → AreWithinSize (ps ++ qs) → AreWithinSize ps × AreWithinSize qs
AreWithinSize-parts [] qs h = (tt, h)
AreWithinSize-parts (p ∷ ps) qs h = let parts = AreWithinSize-parts ps qs h.1 in ((h.0, parts.0), parts.1)

-- those of a change
cell-within : (m : Core) (p : Place) → length m.storage.bytes ≤ 1048576 → IsPlaceOf m p → IsWithinSize p
cell-within m (Byte a) l h = omega (arith, l, h)
cell-within m p l h = tt

cells-within : (m : Core) (cs : List Cell) → length m.storage.bytes ≤ 1048576 → AreCellsOf m cs → AreWithinSize (places_of_cells cs)
cells-within m [] l h = tt
cells-within m (c ∷ cs) l h = (cell-within m c.place l h.0, cells-within m cs l h.3)

control-within : (xs : List ControlCell) → AreWithinSize (places_of_control xs)
control-within [] = tt
control-within (run state ∷ xs) = (tt, control-within xs)
control-within (external conditions ∷ xs) = (tt, control-within xs)

states-within : (us : List ConfiguredUnit) → AreWithinSize (map (λ u. state_place u) us)
states-within [] = tt
states-within (u ∷ us) = (tt, states-within us)

units-within : (x : Option UnitChange) → AreWithinSize (places_of_units x)
units-within None = tt
units-within (Some x) = states-within (altered_by x)

media-within : (x : Option MediaChange) → AreWithinSize (places_of_media x)
media-within None = tt
media-within (Some x) = (tt, tt)

pub change-within : (w : Whole) (x : Change) → length w.core.storage.bytes ≤ 1048576 → CanSwap w x → AreWithinSize (places_of_change x)
change-within w x l can =
    AreWithinSize-append _ _ (cells-within w.core x.cells l can.0) (AreWithinSize-append _ _ (control-within x.control) (AreWithinSize-append _ _ (units-within x.units) (media-within x.media)))

-- and its spans
bytes-within : (address count : ℕ) → 0 < count → AreWithinSize (byte_places address count) → address + count ≤ 1048576
bytes-within address zero l h = absurd (omega (arith, l))
bytes-within address (suc zero) l h = omega (arith, h.0)
bytes-within address (suc (suc n)) l h = omega (arith, bytes-within (address + 1) (suc n) (omega arith) h.1)

span-within : (s : Span) → IsSpan s → AreWithinSize (places_of_span s) → IsSpanWithinSize s
span-within (OnePlace p) i h = h.0
span-within (Bytes address count) i h = (i.0, bytes-within address count i.0 h)

spans-each-within : (ss : List Span) → AreSpans ss → AreWithinSize (places_of_spans ss) → AreSpansWithinSize ss
spans-each-within [] i h = tt
spans-each-within (s ∷ ss) i h =
    let parts = AreWithinSize-parts (places_of_span s) (places_of_spans ss) h
    in (span-within s i.0 parts.0, spans-each-within ss i.1 parts.1)

pub spans-within : (ss : List Span) (x : Change) → AreSpansOf ss x → AreWithinSize (places_of_change x) → AreSpansWithinSize ss
spans-within ss x spans h = spans-each-within ss spans.whole (rw spans.places h)
