use Rattle.std.proofs.Common.{arith}
use Rattle.s360_index.proofs.SegmentLemmas.{IsSegmentOf, segment-of}
use Rattle.s360_index.proofs.segments.Segments.cut.Goals as goal

pub split-requires-clause-inside : goal.split-requires-clause-inside
split-requires-clause-inside c =
    let is : IsSegmentOf c.args.self.now c.args.at c.label-index.result c.index.result.now
    = segment-of _ _ _ _ c.requires.whole c.label-index.ensures c.if-index.false c.index.ensures
    in (c.index.result.now, is.is, omega (arith, is.first, c.if-index-at.false), is.last)
