use Rattle.std.proofs.Common.{◌∙◌}
use Rattle.s360_source.specs.Parts.{places_of_parts}
use Rattle.s360_source.proofs.WalkLemmas.{each-more}
use Rattle.s360_source.proofs.question.Question.store_each.Goals as goal

pub loop-place-preserved : goal.loop-place-preserved
loop-place-preserved c =
    c.in_ok-store.ensures
    ∙ each-more c.args.self c.args.places.now c.loop-place.place-index _ (places_of_parts c.args.parts.now) c.loop-place.found.items c.args.found.now.items
    c.loop-place-test.true c.loop-place.invariant
