-- Spans as a report keeps them (kept).
use Rattle.std.specs.Prelude.{List}
use Rattle.s360_store.specs.declared.span.Span.{Span}
use Rattle.s360_machine.specs.ChangeSpans.{spans_within}
use Rattle.s360_journal.specs.declared.places.SpanList.{SpanList}
use Rattle.s360_journal.specs.declared.places.SpanList.TheVariants.{Within, Apart}

abbrev pub spans_listed : SpanList → List Span
spans_listed (Within spans) = spans_within spans
spans_listed (Apart spans) = spans.items
