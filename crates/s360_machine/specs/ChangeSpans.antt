-- The places of a change as spans, in their order (kept).
use Rattle.std.specs.Prelude.{◌≡◌, ◌++◌, ℕ, Option, Some, None, List, [], ◌∷◌, drop, map, option_copied}
use Rattle.s360_store.specs.declared.place.Place.TheVariants.{Psw as psw_place, Register as register_place}
use Rattle.s360_store.specs.declared.span.Span.{Span}
use Rattle.s360_store.specs.declared.span.Span.TheVariants.{Place as OnePlace, Bytes as ByteSpan}
use Rattle.s360_store.specs.Spans.{AreSpans, places_of_spans, span_of_item}
use Rattle.s360_machine.specs.declared.beside.Beside.{Beside}
use Rattle.s360_machine.specs.declared.change_spans.ChangeSpans.{ChangeSpans}
use Rattle.s360_machine.specs.declared.change_spans.ChangeSpans.TheVariants.{Within, Apart}
use Rattle.s360_machine.specs.declared.change_spans.SpansApart.{SpansApart}
use Rattle.s360_machine.specs.declared.change_spans.SpansWithin.{SpansWithin}
use Rattle.s360_machine.specs.declared.change_spans.SpansWithin.TheVariants as within
use Rattle.s360_machine.specs.declared.row.PackedRow.{PackedRow}
use Rattle.s360_machine.specs.declared.row.PackedRow.TheVariants.{Nothing, Psw, Register, Bytes, More}
use Rattle.s360_machine.specs.Beside.{places_of_beside}
use Rattle.s360_machine.specs.Change.{Change, places_of_change}

-- those of a row, but for those of items that stand apart
abbrev pub spans_of_row : PackedRow → List Span
spans_of_row Nothing = []
spans_of_row (Psw psw) = OnePlace psw_place ∷ []
spans_of_row (Register r word psw) = OnePlace psw_place ∷ (OnePlace (register_place r) ∷ [])
spans_of_row (Bytes count address psw) = OnePlace psw_place ∷ (ByteSpan address count ∷ [])
spans_of_row (More beside items bytes count) = []

abbrev pub spans_within : SpansWithin → List Span
spans_within within.Nothing = []
spans_within within.Psw = OnePlace psw_place ∷ []
spans_within (within.Register r) = OnePlace psw_place ∷ (OnePlace (register_place r) ∷ [])
spans_within (within.Bytes address count) = OnePlace psw_place ∷ (ByteSpan address count ∷ [])

-- those beside the core, from one on, each a place
abbrev pub spans_beside : Option Beside → ℕ → List Span
spans_beside None n = []
spans_beside (Some x) n = map (λ p. OnePlace p) (drop n (places_of_beside x))

-- those that are left of what stands apart
abbrev pub spans_apart : SpansApart → List Span
spans_apart s = map (λ i. span_of_item i) s.items.now ++ spans_beside (option_copied s.beside) s.past

abbrev pub spans_of : ChangeSpans → List Span
spans_of (Within w) = spans_within w
spans_of (Apart s) = spans_apart s

-- they have just the places of the change
pub record AreSpansOf (ss : List Span) (x : Change) : Type 0 where
  pub whole : AreSpans ss
  pub places : places_of_spans ss ≡ places_of_change x
