use Rattle.std.proofs.Common.{◌++◌, map, slice_get}
use Rattle.s360_store.specs.Spans.{span_of_item}
use Rattle.s360_machine.specs.ChangeSpans.{AreSpansOf, spans_beside}
use Rattle.s360_machine.proofs.SpanLemmas.{apart-own, no-more, within-own}
use Rattle.s360_machine.proofs.packed.Own.spans.Goals as goal

pub returns-in_default : goal.returns-in_default
returns-in_default c x h =
    let o = c.args.self.now
    in rw c.spans.ensures (within-own o.row o.items.now o.bytes.now o.beside.now x (no-more o.row c.in_default.not-More) h.over h.beside h.change)

pub returns-in-More : goal.returns-in-More
returns-in-More c x h =
    let o = c.args.self.now
    in let spans : AreSpansOf (map (λ i. span_of_item i) o.items.now ++ spans_beside (slice_get o.beside.now 0) 0) x
    = apart-own c.in-More.beside c.in-More.items c.in-More.bytes c.in-More.count o.items.now o.bytes.now o.beside.now x (rw c.in-More.is at h.over) (rw c.in-More.is at h.change)
    in rw (c.of.ensures, c.first.ensures.value) spans
