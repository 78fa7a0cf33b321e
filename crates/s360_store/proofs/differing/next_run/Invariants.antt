use Rattle.std.proofs.Common.{◌+◌, ◌-◌, length}
use Rattle.s360_store.proofs.DifferingLemmas.{DifferWithin}
use Rattle.s360_store.proofs.differing.next_run.Given as goal

abbrev pub invariant-loop-end : goal.invariant-loop-end
invariant-loop-end l = DifferWithin l.stored l.new l.start l.end

abbrev pub decreases-loop-end : goal.decreases-loop-end
decreases-loop-end l = length l.new + 1 - l.end

abbrev pub invariant-loop-end-2 : goal.invariant-loop-end-2
invariant-loop-end-2 l = DifferWithin l.stored l.new l.start l.end

abbrev pub decreases-loop-end-2 : goal.decreases-loop-end-2
decreases-loop-end-2 l = length l.new - l.end
