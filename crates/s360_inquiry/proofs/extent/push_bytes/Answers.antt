use Rattle.std.proofs.Common.{◌∙◌, ◌+◌, ◌++◌, ◌∷◌, [], ℕ, ap}
use Rattle.s360_store.specs.declared.place.Place.TheVariants.{Byte}
use Rattle.s360_source.proofs.PartLemmas.{byte_places-more}
use Rattle.s360_inquiry.proofs.extent.push_bytes.Goals as goal

pub loop-index-preserved : goal.loop-index-preserved
loop-index-preserved c =
    c.in_ok-push.ensures.items
    ∙ ap (λ (a : ℕ). c.loop-index.places.items ++ Byte (a + c.loop-index.index) ∷ []) c.from-in-loop-index.ensures
    ∙ byte_places-more c.loop-index.places.items c.args.places.now.items c.args.first c.loop-index.index c.loop-index.invariant
