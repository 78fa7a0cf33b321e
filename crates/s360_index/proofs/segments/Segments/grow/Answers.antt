use Rattle.std.proofs.Common.{◌≡◌, ◌<◌, ◌∙◌, [], length, List, ap, sym, refl, arith}
use Rattle.std.proofs.lemmas.Bool.{eqb-false, eqb-true}
use Rattle.std.proofs.lemmas.List.{length_push, nil_from_length}
use Rattle.s360_index.specs.declared.segments.Segment.{Segment}
use Rattle.s360_index.specs.declared.segments.Segments.{Segments}
use Rattle.s360_index.specs.Segments.{AreSegments}
use Rattle.s360_index.proofs.SegmentLemmas.{first-whole, grow-whole, label-more}
use Rattle.s360_index.proofs.segments.Segments.grow.Goals as goal
use Rattle.s360_index.proofs.segments.Segments.grow.Goals.{then-is_empty+in_ok-push, else-is_empty}

-- the segments are whole, and there is one at least
filled : (c : goal.In_ok-resize) → AreSegments c.if-is_empty.self × (0 < length c.if-is_empty.self.segments.items)
filled c =
    let s : Segments = c.args.self.now
    in elim c.if-is_empty.branch [
      | then-is_empty+in_ok-push w ↦
          let none : s.segments.items ≡ [] = nil_from_length s.segments.items (omega (arith, eqb-true _ _ (sym w.if-is_empty.ensures), s.segments.ok.0))
          in (
            first-whole s _ _ c.requires.whole (ap (λ (x : Segments). x.labels.items) w.self-is) none (ap (λ (x : Segments). x.segments.items) w.self-is ∙ w.in_ok-push.ensures.items) w.new-numbers.ensures.items,
            omega (arith, ap (λ (x : Segments). length x.segments.items) w.self-is, ap (λ (gs : List Segment). length gs) w.in_ok-push.ensures.items, length_push s.segments.items (record { start = 0; end = 0; numbers = w.new-numbers.result })),
          )
      | else-is_empty w ↦ rw w.self-is (c.requires.whole, omega (arith, eqb-false _ _ (sym w.if-is_empty.ensures), s.segments.ok.0))
    ]

pub returns-in_ok-resize-clause-whole : goal.returns-in_ok-resize-clause-whole
returns-in_ok-resize-clause-whole c =
    let mid : Segments = c.if-is_empty.self
    in let all = filled c
    in grow-whole mid _ all.0 (omega (arith, c.if-len-end.true, c.len.ensures, c.in_ok-resize.ensures.len, mid.labels.ok.0, c.resize.new.self.ok.0))
    (omega (arith, c.requires.few, c.in_ok-resize.ensures.len, c.resize.new.self.ok.0))
    (λ a. label-more mid.labels.items _ c.args.end _ a mid.labels.ok.0 (omega (arith, c.if-len-end.true, c.len.ensures)) c.in_ok-resize.ensures.items) refl all.1
