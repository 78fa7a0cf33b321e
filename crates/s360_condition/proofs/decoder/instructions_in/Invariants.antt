use Rattle.std.proofs.Common.{◌-◌, length}
use Rattle.s360_condition.proofs.ReadingLemmas.{IsReadUpTo}
use Rattle.s360_condition.proofs.decoder.instructions_in.Given as goal

abbrev pub invariant-loop-at : goal.invariant-loop-at
invariant-loop-at l = IsReadUpTo l.bytes l.at l.instructions.items

abbrev pub decreases-loop-at : goal.decreases-loop-at
decreases-loop-at l = length l.bytes - l.at
