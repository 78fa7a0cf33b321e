use Rattle.std.proofs.Common.{◌≡◌, ◌∙◌, ◌<◌, ◌++◌, [], ◌∷◌, List, ℕ, length, slice_index_or, ap, sym, arith, slice_get}
use Rattle.std.specs.Vec.{with_items}
use Rattle.std.proofs.lemmas.List.{with_items_is}
use Rattle.std.proofs.lemmas.Option.{get_or_from_slice_get}
use Rattle.s360_index.specs.declared.segments.Segment.{Segment}
use Rattle.s360_index.specs.declared.segments.Segments.{Segments}
use Rattle.s360_index.proofs.SegmentLemmas.{IsMade, Relabelled-same, make-cut, make-cuts, make-gained, make-whole, past-first, segments-few}
use Rattle.s360_index.proofs.segments.Segments.make.Goals as goal

-- the segments at the end, and the new one of them
abbrev segments : goal.After-self-1 → Segments
segments c = record { labels = with_items c.args.self.now.labels c.relabel.new.labels; segments = c.push-2.new.self; alloc = c.args.self.now.alloc }

abbrev new : goal.After-self-1 → Segment
new c = record { start = c.args.start; end = c.end_of_unaltered-past.result; numbers = c.push.new.self }

first : (c : goal.After-self-1) → c.args.start < c.end_of_unaltered-past.result
first c =
    let now : c.deref.result.now ≡ c.args.self.now.labels.items = c.deref.ensures.value
    in past-first c.deref.result.now c.args.start c.args.end _ c.requires.forward (omega (arith, c.requires.grown, ap (λ (xs : List ℕ). length xs) now))
    (ap (λ (xs : List ℕ). slice_index_or xs c.args.start 0) now ∙ c.requires.unaltered) c.end_of_unaltered-past.ensures.forward c.end_of_unaltered-past.ensures.all

made : (c : goal.After-self-1) → IsMade c.args.self.now (segments c) (new c)
made c =
    let s : Segments = c.args.self.now
    in record {
      some = first c;
      inside = omega (arith, c.end_of_unaltered-past.ensures.inside, c.requires.grown);
      unaltered = λ a l m. get_or_from_slice_get s.labels.items a 0 0 (sym (ap (λ (xs : List ℕ). slice_get xs a) c.deref.ensures.value) ∙ c.end_of_unaltered-past.ensures.unaltered a l m);
      segments = c.in_ok-push-2.ensures.items;
      labels = Relabelled-same _ _ _ _ _ _ _ _ c.relabel.ensures (sym c.deref_mut.ensures.value)
          (with_items_is s.labels c.relabel.new.labels (omega (arith, c.relabel.ensures.same_length, c.deref_mut.ensures.len)))
          (omega (arith, c.len-label.ensures, s.segments.ok.0));
    }

pub overflow_cast-label : goal.overflow_cast-label
overflow_cast-label c = omega (arith, segments-few c.args.self.now c.requires.whole, c.len-label.ensures, c.args.self.now.segments.ok.0)

pub returns-clause-whole : goal.returns-clause-whole
returns-clause-whole c = make-whole _ _ _ c.requires.whole (made c)

pub returns-clause-ok : goal.returns-clause-ok
returns-clause-ok c =
    make-gained c.args.self.now (segments c) (new c) c.args.number c.requires.whole (made c)
    (c.in_ok-push.ensures.items ∙ ap (λ (xs : List ℕ). xs ++ c.args.number ∷ []) c.new-numbers.ensures.items)

pub returns-clause-inside : goal.returns-clause-inside
returns-clause-inside c = (first c, c.end_of_unaltered-past.ensures.inside)

pub returns-clause-cut : goal.returns-clause-cut
returns-clause-cut c = make-cut c.args.self.now (segments c) (new c) c.requires.whole (made c)

pub returns-clause-cuts : goal.returns-clause-cuts
returns-clause-cuts c = make-cuts c.args.self.now (segments c) (new c) c.args.end (made c) c.end_of_unaltered-past.ensures.inside c.requires.cut_at_end
