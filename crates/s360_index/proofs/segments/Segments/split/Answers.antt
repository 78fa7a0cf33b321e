use Rattle.std.proofs.Common.{◌≡◌, ◌∙◌, ◌++◌, ◌⊎◌, [], ◌∷◌, List, ℕ, length, ap, sym, refl, inl, inr, set, arith, rules}
use Rattle.std.specs.Vec.{with_items}
use Rattle.std.proofs.lemmas.List.{with_items_is}
use Rattle.std.proofs.lemmas.List.Elements.{same_from_all_zip}
use Rattle.s360_index.specs.declared.segments.Segment.{Segment}
use Rattle.s360_index.specs.declared.segments.Segments.{Segments}
use Rattle.s360_index.proofs.SegmentLemmas.{AreParts, IsReadAt, IsSplit, Relabelled-same, read-inside, renumber-whole, segments-few, split-cut, split-cuts, split-numbers, split-whole}
use Rattle.s360_index.proofs.segments.Segments.split.Goals as goal
use Rattle.s360_index.proofs.segments.Segments.split.Goals.{then-at-segment, else-at-segment}

-- the segments at the end, and the new one of them
abbrev segments : goal.After-self-2-1 → Segments
segments c = record { labels = with_items c.if-at-segment.self.labels c.relabel.new.labels; segments = c.push_reserved.new.self; alloc = c.if-at-segment.self.alloc }

abbrev new : goal.After-self-2-1 → Segment
new c = record { start = c.if-at-segment.start.0; end = c.if-at-segment.start.1; numbers = c.in_ok-numbers.numbers }

-- what was done, where the other part is known
parted-by : (c : goal.After-self-2-1) (kept : Segment) → c.if-at-segment.self.segments.items ≡ set c.reserve.new.self.items c.args.index kept → c.if-at-segment.self.labels.items ≡ c.args.self.now.labels.items
    → kept.numbers.items ≡ c.index_mut-segment.result.now.numbers.items
    → AreParts c.index_mut-segment.result.now (new c) kept c.args.at ⊎ AreParts c.index_mut-segment.result.now kept (new c) c.args.at
    → IsSplit c.args.self.now (segments c) c.args.index c.args.at c.index_mut-segment.result.now kept (new c)
parted-by c kept e l k p =
    let s : Segments = c.args.self.now
    in let old : IsReadAt s c.args.index c.args.at c.index_mut-segment.result.now = read-inside s _ _ _ _ c.requires.inside c.index_mut-segment.ensures.value c.in_ok-reserve.ensures.items
    in record {
      some = c.requires.some;
      was = old.is;
      behind = old.behind;
      before = old.before;
      segments = c.push_reserved.ensures.items ∙ ap (λ (gs : List Segment). gs ++ new c ∷ []) (e ∙ ap (λ (gs : List Segment). set gs c.args.index kept) c.in_ok-reserve.ensures.items);
      labels = Relabelled-same _ _ _ _ _ _ _ _ c.relabel.ensures (sym (c.deref_mut.ensures.value ∙ l))
          (with_items_is c.if-at-segment.self.labels c.relabel.new.labels (omega (arith, c.relabel.ensures.same_length, c.deref_mut.ensures.len)))
          (omega (arith, c.len-label.ensures, s.segments.ok.0));
      kept_numbers = k;
      new_numbers = same_from_all_zip _ _ _ c.in_ok-numbers.ensures.cases.0 (λ x y h. search rules);
      parts = p;
    }

parted : (c : goal.After-self-2-1) → (kept : Segment) × IsSplit c.args.self.now (segments c) c.args.index c.args.at c.index_mut-segment.result.now kept (new c)
parted c =
    let old : Segment = c.index_mut-segment.result.now
    in elim c.if-at-segment.branch [
      | then-at-segment w ↦
          let kept : Segment = record { start = c.args.at; end = old.end; numbers = old.numbers }
          in (
            kept,
            parted-by c kept (ap (λ (x : Segments). x.segments.items) w.self-is) (ap (λ (x : Segments). x.labels.items) w.self-is) refl
                (inl (record { first = ap (λ x. x.0) w.start-is; cut = ap (λ x. x.1) w.start-is; next = refl; last = refl })),
          )
      | else-at-segment w ↦
          let kept : Segment = record { start = old.start; end = c.args.at; numbers = old.numbers }
          in (
            kept,
            parted-by c kept (ap (λ (x : Segments). x.segments.items) w.self-is) (ap (λ (x : Segments). x.labels.items) w.self-is) refl
                (inr (record { first = refl; cut = refl; next = ap (λ x. x.0) w.start-is; last = ap (λ x. x.1) w.start-is })),
          )
    ]

pub overflow_cast-label : goal.overflow_cast-label
overflow_cast-label c = omega (arith, segments-few c.args.self.now c.requires.whole, c.len-label.ensures, c.args.self.now.segments.ok.0)

pub returns-clause-whole : goal.returns-clause-whole
returns-clause-whole c = split-whole _ _ _ _ _ _ _ c.requires.whole (parted c).1

pub returns-clause-numbers : goal.returns-clause-numbers
returns-clause-numbers c = split-numbers c.args.self.now (segments c) _ _ _ _ _ c.requires.whole (parted c).1

pub returns-clause-cuts : goal.returns-clause-cuts
returns-clause-cuts c = split-cuts c.args.self.now (segments c) _ _ _ _ _ (parted c).1

pub returns-clause-cut : goal.returns-clause-cut
returns-clause-cut c = split-cut c.args.self.now (segments c) _ _ _ _ _ c.requires.whole (parted c).1

-- without memory the segment is put back as it was
pub returns-in_err-numbers-clause-whole : goal.returns-in_err-numbers-clause-whole
returns-in_err-numbers-clause-whole c =
    let s : Segments = c.args.self.now
    in let old : Segment = c.index_mut-segment.result.now
    in let at : IsReadAt s c.args.index c.args.at old = read-inside s _ _ _ _ c.requires.inside c.index_mut-segment.ensures.value c.in_ok-reserve.ensures.items
    in renumber-whole s _ c.args.index old old c.requires.whole
    (record { some = c.requires.some; is = at.is; labels = refl; segments = ap (λ (gs : List Segment). set gs c.args.index old) c.in_ok-reserve.ensures.items; start = refl; last = refl })

pub overflow_sub-at : goal.overflow_sub-at
overflow_sub-at c = omega (arith, (read-inside c.args.self.now _ _ _ _ c.requires.inside c.index_mut-segment.ensures.value c.in_ok-reserve.ensures.items).behind)

pub overflow_sub-segment : goal.overflow_sub-segment
overflow_sub-segment c = omega (arith, (read-inside c.args.self.now _ _ _ _ c.requires.inside c.index_mut-segment.ensures.value c.in_ok-reserve.ensures.items).before)

pub relabel-requires-clause-forward : goal.relabel-requires-clause-forward
relabel-requires-clause-forward c =
    let at = read-inside c.args.self.now _ c.args.index c.args.at _ c.requires.inside c.index_mut-segment.ensures.value c.in_ok-reserve.ensures.items
    in elim c.if-at-segment.branch [
      | then-at-segment w ↦ omega (arith, at.behind, ap (λ x. x.0) w.start-is, ap (λ x. x.1) w.start-is)
      | else-at-segment w ↦ omega (arith, at.before, ap (λ x. x.0) w.start-is, ap (λ x. x.1) w.start-is)
    ]

pub relabel-requires-clause-inside : goal.relabel-requires-clause-inside
relabel-requires-clause-inside c =
    let s : Segments = c.args.self.now
    in let at : IsReadAt s c.args.index c.args.at c.index_mut-segment.result.now = read-inside s _ _ _ _ c.requires.inside c.index_mut-segment.ensures.value c.in_ok-reserve.ensures.items
    in let long = (c.requires.whole.whole c.args.index c.index_mut-segment.result.now c.requires.some at.is).inside
    in let now = ap (λ (xs : List ℕ). length xs) c.deref_mut.ensures.value
    in elim c.if-at-segment.branch [
      | then-at-segment w ↦ omega (arith, at.before, ap (λ x. x.1) w.start-is, long, now, ap (λ (x : Segments). length x.labels.items) w.self-is)
      | else-at-segment w ↦ omega (arith, ap (λ x. x.1) w.start-is, long, now, ap (λ (x : Segments). length x.labels.items) w.self-is)
    ]
