use Rattle.std.proofs.Common.{arith, refl}
use Rattle.s360_store.specs.declared.place.Place.TheVariants.{Psw}
use Rattle.s360_inquiry.proofs.WhyLemmas.{inserted-more}
use Rattle.s360_inquiry.proofs.place_set.insert_each.Goals as goal

pub loop-place-preserved : goal.loop-place-preserved
loop-place-preserved c =
    inserted-more c.args.places.now.keys c.loop-place.places.keys _ c.args.more.now c.loop-place.place-index _ Psw (omega arith) refl
    c.loop-place.invariant c.in_ok-insert.ensures.keys
