use Rattle.std.proofs.Common.{arith}
use Rattle.s360_store.specs.declared.span.Span.{Span}
use Rattle.s360_store.specs.declared.span.Span.TheVariants.{Place as OnePlace}
use Rattle.s360_store.specs.declared.place.Place.TheVariants.{Psw}
use Rattle.s360_journal.proofs.SpanLemmas.{sought-found, sought-past}
use Rattle.s360_journal.proofs.places.place_at.Goals as goal

abbrev none : Span
none = OnePlace Psw

pub returns-then-left-len : goal.returns-then-left-len
returns-then-left-len c =
    sought-found c.args.spans.now c.args.i c.loop-span.span-index c.loop-span.left none c.place.result c.loop-span-test.true (omega (arith, c.if-left-len.true, c.len.ensures)) c.place.ensures c.loop-span.invariant

pub loop-span-preserved : goal.loop-span-preserved
loop-span-preserved c =
    sought-past c.args.spans.now c.args.i c.loop-span.span-index c.loop-span.left c.len-left.result none c.loop-span-test.true c.len-left.ensures (omega (arith, c.if-left-len.false, c.len.ensures, c.len-left.ensures)) c.loop-span.invariant
