use Rattle.std.proofs.Common.{refl, arith}
use Rattle.std.specs.Vec.{with_item}
use Rattle.s360_index.specs.declared.segments.Segment.{Segment}
use Rattle.s360_index.specs.declared.segments.Segments.{Segments}
use Rattle.s360_index.proofs.SegmentLemmas.{IsRenumbered, IsSegmentOf, OnErr-from, cut-behind, renumber-cuts, renumber-gained, renumber-same, renumber-whole, segment-of}
use Rattle.s360_index.proofs.segments.Segments.put_some.Goals as goal

-- without memory
altered-without : (c : goal.After-from_residual) → IsSegmentOf c.args.self.now c.args.at c.label-index.result c.index_mut-segment.result.now
altered-without c = segment-of _ _ _ _ c.requires.whole c.label-index.ensures c.if-index.false c.index_mut-segment.ensures.value

abbrev segment-without : goal.After-from_residual → Segment
segment-without c = record { start = c.index_mut-segment.result.now.start; end = c.index_mut-segment.result.now.end; numbers = c.put_number.new.numbers }

abbrev segments-without : goal.After-from_residual → Segments
segments-without c = record { labels = c.args.self.now.labels; segments = with_item c.args.self.now.segments c.label-index.result (segment-without c); alloc = c.args.self.now.alloc }

renumbered-without : (c : goal.After-from_residual) → IsRenumbered c.args.self.now (segments-without c) c.label-index.result c.index_mut-segment.result.now (segment-without c)
renumbered-without c = record { some = (altered-without c).some; is = (altered-without c).is; labels = refl; segments = refl; start = refl; last = refl }

pub returns-in_err-put_number-clause-whole : goal.returns-in_err-put_number-clause-whole
returns-in_err-put_number-clause-whole c = renumber-whole _ _ _ _ _ c.requires.whole (renumbered-without c)

pub returns-in_err-put_number-clause-err : goal.returns-in_err-put_number-clause-err
returns-in_err-put_number-clause-err c =
    OnErr-from c.from_residual.result (renumber-same c.args.self.now (segments-without c) _ _ _ (renumbered-without c) c.in_err-put_number.ensures.err)

-- with the number
altered : (c : goal.After-self-2-1) → IsSegmentOf c.args.self.now c.args.at c.label-index.result c.index_mut-segment.result.now
altered c = segment-of _ _ _ _ c.requires.whole c.label-index.ensures c.if-index.false c.index_mut-segment.ensures.value

abbrev segment : goal.After-self-2-1 → Segment
segment c = record { start = c.index_mut-segment.result.now.start; end = c.index_mut-segment.result.now.end; numbers = c.put_number.new.numbers }

abbrev segments : goal.After-self-2-1 → Segments
segments c = record { labels = c.args.self.now.labels; segments = with_item c.args.self.now.segments c.label-index.result (segment c); alloc = c.args.self.now.alloc }

renumbered : (c : goal.After-self-2-1) → IsRenumbered c.args.self.now (segments c) c.label-index.result c.index_mut-segment.result.now (segment c)
renumbered c = record { some = (altered c).some; is = (altered c).is; labels = refl; segments = refl; start = refl; last = refl }

pub returns-clause-whole : goal.returns-clause-whole
returns-clause-whole c = renumber-whole _ _ _ _ _ c.requires.whole (renumbered c)

pub returns-clause-ok : goal.returns-clause-ok
returns-clause-ok c = renumber-gained c.args.self.now (segments c) c.args.at _ _ _ c.args.number (altered c) (renumbered c) c.requires.cut c.in_ok-put_number.ensures.ok

pub returns-clause-inside : goal.returns-clause-inside
returns-clause-inside c = let is = altered c in (is.last, omega (arith, is.first, c.requires.forward, c.requires.cut_at_end c.label-index.result c.index_mut-segment.result.now is.some is.is))

pub returns-clause-cut : goal.returns-clause-cut
returns-clause-cut c = renumber-cuts c.args.self.now (segments c) _ _ _ (renumbered c) _ (cut-behind _ _ _ _ c.requires.whole (altered c))

pub returns-clause-cuts : goal.returns-clause-cuts
returns-clause-cuts c = renumber-cuts c.args.self.now (segments c) _ _ _ (renumbered c) _ c.requires.cut_at_end
