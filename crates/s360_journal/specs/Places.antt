-- The places of a report, as spans (kept).
use Rattle.std.specs.Prelude.{◌≡◌, ℕ, List, length}
use Rattle.s360_store.specs.declared.span.Span.{Span}
use Rattle.s360_store.specs.Spans.{AreSpans, places_of_spans}

-- there are so many
pub record ArePlaces (spans : List Span) (count : ℕ) : Type 0 where
  pub whole : AreSpans spans
  pub counted : count ≡ length (places_of_spans spans)
