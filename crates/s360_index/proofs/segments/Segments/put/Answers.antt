use Rattle.std.proofs.Common.{◌∙◌, arith}
use Rattle.s360_index.proofs.SegmentLemmas.{Gained-none}
use Rattle.s360_index.proofs.segments.Segments.put.Goals as goal

pub loop-at-init : goal.loop-at-init
loop-at-init c = record {
  whole = c.cut-2.ensures.whole;
  grown = omega (arith, c.in_ok-grow.ensures.grown, c.cut.ensures.labels, c.cut-2.ensures.labels);
  cut = c.cut-2.ensures.cuts c.args.address c.in_ok-cut.ensures.cut;
  cut_at_end = c.in_ok-cut-2.ensures.cut;
  forward = omega arith;
  inside = omega arith;
  gained = Gained-none c.args.self.now c.cut-2.new.self c.args.number c.args.address (λ a. c.cut-2.ensures.numbers a ∙ c.cut.ensures.numbers a ∙ c.grow.ensures.numbers a);
}
