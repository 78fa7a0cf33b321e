use Rattle.std.proofs.Common.{length}
use Rattle.s360_remote.proofs.ConditionLemmas.{IsReadSoFar}
use Rattle.s360_remote.proofs.condition.read_conditions.Given as goal

abbrev pub invariant-loop-rest : goal.invariant-loop-rest
invariant-loop-rest l = IsReadSoFar l.text l.conditions.items l.rest

abbrev pub decreases-loop-rest : goal.decreases-loop-rest
decreases-loop-rest l = length l.rest
