use Rattle.std.proofs.Common.{◌+◌, ◌-◌, length}
use Rattle.s360_store.proofs.DifferingLemmas.{SameFrom}
use Rattle.s360_store.proofs.differing.first_other.Given as goal

abbrev pub invariant-loop-start : goal.invariant-loop-start
invariant-loop-start l = SameFrom l.stored l.new l.from l.start

abbrev pub decreases-loop-start : goal.decreases-loop-start
decreases-loop-start l = length l.new + 1 - l.start

abbrev pub invariant-loop-start-2 : goal.invariant-loop-start-2
invariant-loop-start-2 l = SameFrom l.stored l.new l.from l.start

abbrev pub decreases-loop-start-2 : goal.decreases-loop-start-2
decreases-loop-start-2 l = length l.new - l.start
