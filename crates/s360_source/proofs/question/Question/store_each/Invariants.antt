use Rattle.std.proofs.Common.{◌≡◌, take}
use Rattle.s360_source.specs.Parts.{places_of_parts}
use Rattle.s360_source.specs.Walks.{with_each}
use Rattle.s360_source.proofs.question.Question.store_each.Given as goal

abbrev pub invariant-loop-place : goal.invariant-loop-place
invariant-loop-place l = l.found.items ≡ with_each l.self (take l.place-index l.places) (places_of_parts l.parts) l.initial.found.items
