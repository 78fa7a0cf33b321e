use Rattle.std.proofs.Common.{◌≡◌, drop}
use Rattle.s360_condition.specs.Reading.{first_astray}
use Rattle.s360_condition.proofs.decoder.first_astray.Given as goal

abbrev pub invariant-loop-index : goal.invariant-loop-index
invariant-loop-index l = first_astray (drop l.index l.instructions) ≡ first_astray l.instructions
