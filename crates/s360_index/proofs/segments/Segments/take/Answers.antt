use Rattle.std.proofs.Common.{◌∙◌, sym, refl, inl, inr, arith}
use Rattle.s360_index.specs.Segments.{Lost}
use Rattle.s360_index.proofs.SegmentLemmas.{Lost-first, Lost-less, Lost-more, Lost-none}
use Rattle.s360_index.proofs.segments.Segments.take.Goals as goal

pub loop-at-init : goal.loop-at-init
loop-at-init c = record {
  whole = c.requires.whole;
  forward = omega arith;
  lost = Lost-none _ _ c.args.number c.args.address (λ a. refl);
  later = λ a l. refl;
  cut = inl (refl, λ a. refl);
}

lost : (c : goal.After-take_some-at) → Lost c.args.number c.args.address c.take_some-at.result c.args.self.now c.take_some-at.new.self
lost c = elim c.loop-at.invariant.cut [
  | inl h ↦ rw (sym h.0) (Lost-first _ c.loop-at.self _ c.args.number c.loop-at.at _ h.1 c.take_some-at.ensures.lost)
  | inr h ↦ Lost-more _ c.loop-at.self _ c.args.number c.args.address c.loop-at.at _ c.loop-at.invariant.lost c.loop-at.invariant.later c.take_some-at.ensures.lost (c.take_some-at.ensures.before h)
]

pub loop-at-preserved : goal.loop-at-preserved
loop-at-preserved c = record {
  whole = c.take_some-at.ensures.whole;
  forward = omega (arith, c.loop-at.invariant.forward, c.take_some-at.ensures.forward);
  lost = lost c;
  later = λ a l. c.take_some-at.ensures.behind a l ∙ c.loop-at.invariant.later a (omega (arith, l, c.take_some-at.ensures.forward));
  cut = inr c.take_some-at.ensures.cut;
}

pub returns-clause-lost : goal.returns-clause-lost
returns-clause-lost c = Lost-less _ _ c.args.number c.args.address _ c.loop-at.at c.loop-at-test.false c.loop-at.invariant.lost
