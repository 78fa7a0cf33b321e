use Rattle.std.proofs.Common.{◌≡◌, Some, drop}
use Rattle.s360_condition.specs.Reading.{goes_on}
use Rattle.s360_condition.proofs.decoder.goes_on.Given as goal

abbrev pub invariant-loop-placed : goal.invariant-loop-placed
invariant-loop-placed l = goes_on (Some l.to) (drop l.placed-index l.behind) ≡ goes_on (Some l.to) l.behind
