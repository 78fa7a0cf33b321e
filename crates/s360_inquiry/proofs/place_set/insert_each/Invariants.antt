use Rattle.std.proofs.Common.{◌≡◌, take}
use Rattle.s360_inquiry.specs.Causes.{with_places}
use Rattle.s360_inquiry.proofs.place_set.insert_each.Given as goal

abbrev pub invariant-loop-place : goal.invariant-loop-place
invariant-loop-place l = l.places.keys ≡ with_places l.initial.places.keys (take l.place-index l.more)
