use Rattle.std.proofs.Common.{◌≡◌, drop, reverse}
use Rattle.s360_inquiry.specs.Origins.{causes_from}
use Rattle.s360_inquiry.proofs.cause.causes_from.Given as goal

abbrev pub invariant-loop-index : goal.invariant-loop-index
invariant-loop-index l = reverse l.causes.items ≡ causes_from (drop l.index l.sources)
