use Rattle.std.proofs.Common.{◌≡◌, ◌+◌, ◌++◌, ◌∷◌, [], ap, sym, ◌∙◌, take, append_assoc}
use Rattle.std.proofs.lemmas.List.{take_more}
use Rattle.std.proofs.lemmas.Option.{get_or_from_slice_get, slice_get_within}
use Rattle.s360_store.specs.declared.place.Place.{Place}
use Rattle.s360_debug.proofs.PlaceNameLemmas.{place_names-push}
use Rattle.s360_debug.proofs.answering.push_places.Goals as goal

pub loop-i-preserved : goal.loop-i-preserved
loop-i-preserved c =
    let ps = c.args.places.now
    in let i = c.loop-i.i
    in let p : Place = c.in-Some.place
    in let more : take (i + 1) ps ≡ take i ps ++ p ∷ [] = take_more ps i p (slice_get_within ps i p (sym c.in-Some.ensures)) ∙ ap (λ (q : Place). take i ps ++ q ∷ []) (get_or_from_slice_get ps i p p (sym c.in-Some.ensures))
    in rw (
      c.in_ok-push_place.ensures,
      c.in_ok-push_text.ensures,
      c.loop-i.invariant,
      more,
      place_names-push (take i ps) p,
    ) (simp append_assoc)
