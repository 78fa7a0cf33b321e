use Rattle.std.proofs.Common.{◌≡◌}
use Rattle.s360_source.specs.Parts.{places_of_parts}
use Rattle.s360_source.specs.Walks.{with_bytes}
use Rattle.s360_source.proofs.question.Question.store_bytes.Given as goal

abbrev pub invariant-loop-i : goal.invariant-loop-i
invariant-loop-i l = l.found.items ≡ with_bytes l.self l.address l.i (places_of_parts l.parts) l.initial.found.items
