use Rattle.std.proofs.Common.{refl, inl, inr, arith}
use Rattle.std.specs.Vec.{with_item}
use Rattle.s360_index.specs.declared.segments.Segment.{Segment}
use Rattle.s360_index.specs.declared.segments.Segments.{Segments}
use Rattle.s360_index.proofs.SegmentLemmas.{IsRenumbered, IsSegmentOf, cut-behind, first-of, renumber-cuts, renumber-lost, renumber-outside, renumber-whole, segment-of}
use Rattle.s360_index.proofs.segments.Segments.take_some.Goals as goal

altered : (c : goal.After-self-1) → IsSegmentOf c.args.self.now c.args.at c.label-index.result c.index_mut-segment.result.now
altered c = segment-of _ _ _ _ c.requires.whole c.label-index.ensures c.if-index.false c.index_mut-segment.ensures.value

-- the segments at the end, and the one with other numbers
abbrev segment : goal.After-self-1 → Segment
segment c = record { start = c.index_mut-segment.result.now.start; end = c.index_mut-segment.result.now.end; numbers = c.take_number.new.numbers }

abbrev segments : goal.After-self-1 → Segments
segments c = record { labels = c.args.self.now.labels; segments = with_item c.args.self.now.segments c.label-index.result (segment c); alloc = c.args.self.now.alloc }

renumbered : (c : goal.After-self-1) → IsRenumbered c.args.self.now (segments c) c.label-index.result c.index_mut-segment.result.now (segment c)
renumbered c = record { some = (altered c).some; is = (altered c).is; labels = refl; segments = refl; start = refl; last = refl }

pub returns-clause-whole : goal.returns-clause-whole
returns-clause-whole c = renumber-whole _ _ _ _ _ c.requires.whole (renumbered c)

pub returns-clause-lost : goal.returns-clause-lost
returns-clause-lost c = renumber-lost c.args.self.now (segments c) c.args.at _ _ (segment c) c.args.number (altered c) (renumbered c) c.take_number.ensures

pub returns-clause-before : goal.returns-clause-before
returns-clause-before c = λ k a l. renumber-outside c.args.self.now (segments c) c.args.at _ _ (segment c) a (altered c) (renumbered c) (inl (omega (arith, l, first-of _ _ _ _ (altered c) k)))

pub returns-clause-behind : goal.returns-clause-behind
returns-clause-behind c = λ a l. renumber-outside c.args.self.now (segments c) c.args.at _ _ (segment c) a (altered c) (renumbered c) (inr l)

pub returns-clause-cut : goal.returns-clause-cut
returns-clause-cut c = renumber-cuts c.args.self.now (segments c) _ _ _ (renumbered c) _ (cut-behind _ _ _ _ c.requires.whole (altered c))

pub returns-clause-forward : goal.returns-clause-forward
returns-clause-forward c = (altered c).last
