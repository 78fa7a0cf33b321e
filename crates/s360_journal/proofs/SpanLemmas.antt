-- Places as spans.
use Rattle.std.proofs.Common.{◌≡◌, ◌<◌, ◌≤◌, ◌+◌, ◌-◌, ◌++◌, ◌∙◌, ℕ, zero, suc, Some, List, [], ◌∷◌, refl, ap, sym, drop, get_or, length, arith, slice_get}
use Rattle.std.proofs.lemmas.List.{drop_more}
use Rattle.s360_store.specs.declared.place.Place.{Place}
use Rattle.s360_store.specs.declared.span.Span.{Span}
use Rattle.s360_store.specs.Spans.{AreSpans, places_of_span, places_of_spans}

-- a place is sought by its index
slice_get-front : (ps qs : List Place) (i : ℕ) → i < length ps → slice_get (ps ++ qs) i ≡ slice_get ps i
slice_get-front [] qs i l = absurd (omega (arith, l))
slice_get-front (p ∷ ps) qs zero l = refl
slice_get-front (p ∷ ps) qs (suc i) l = slice_get-front ps qs i (omega (arith, l))

slice_get-behind : (ps qs : List Place) (i : ℕ) → length ps ≤ i → slice_get (ps ++ qs) i ≡ slice_get qs (i - length ps)
slice_get-behind [] qs i l = let same : i ≡ i - 0 = omega arith in ap (slice_get qs) same
slice_get-behind (p ∷ ps) qs zero l = absurd (omega (arith, l))
slice_get-behind (p ∷ ps) qs (suc i) l = slice_get-behind ps qs i (omega (arith, l)) ∙ ap (slice_get qs) (let same : i - length ps ≡ suc i - suc (length ps) = omega arith in same)

pub record SoughtIn (ss : List Span) (i k left : ℕ) : Type 0 where
  pub whole : AreSpans (drop k ss)
  pub same : slice_get (places_of_spans ss) i ≡ slice_get (places_of_spans (drop k ss)) left

pub sought-found : (ss : List Span) (i k left : ℕ) (d : Span) (p : Place) → k < length ss → left < length (places_of_span (get_or ss k d)) → slice_get (places_of_span (get_or ss k d)) left ≡ Some p → SoughtIn ss i k left
    → Some p ≡ slice_get (places_of_spans ss) i
sought-found ss i k left d p l m e h =
    let same : slice_get (places_of_spans ss) i ≡ slice_get (places_of_span (get_or ss k d) ++ places_of_spans (drop (k + 1) ss)) left = rw (drop_more ss k d l) at h.same
    in sym (same ∙ slice_get-front (places_of_span (get_or ss k d)) (places_of_spans (drop (k + 1) ss)) left m ∙ e)

pub sought-past : (ss : List Span) (i k left n : ℕ) (d : Span) → k < length ss → n ≡ length (places_of_span (get_or ss k d)) → n ≤ left → SoughtIn ss i k left → SoughtIn ss i (k + 1) (left - n)
sought-past ss i k left n d l c m h =
    let same : slice_get (places_of_spans ss) i ≡ slice_get (places_of_span (get_or ss k d) ++ places_of_spans (drop (k + 1) ss)) left = rw (drop_more ss k d l) at h.same
    in rw c (record {
      whole = (rw (drop_more ss k d l) at h.whole).1;
      same = same ∙ slice_get-behind (places_of_span (get_or ss k d)) (places_of_spans (drop (k + 1) ss)) left (omega (arith, m, c));
    })
