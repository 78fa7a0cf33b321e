use Rattle.std.proofs.Common.{◌≡◌, []}
use Rattle.s360_source.specs.Walks.{with_bytes}
use Rattle.s360_source.proofs.operator.push_outside.Given as goal

abbrev pub invariant-loop-i : goal.invariant-loop-i
invariant-loop-i l = l.found.items ≡ with_bytes l.question l.at l.i [] l.initial.found.items
