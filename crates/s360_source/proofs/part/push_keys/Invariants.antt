use Rattle.std.proofs.Common.{◌≡◌, ◌++◌}
use Rattle.s360_source.specs.Parts.{keys_from}
use Rattle.s360_source.proofs.part.push_keys.Given as goal

abbrev pub invariant-loop-i : goal.invariant-loop-i
invariant-loop-i l = l.found.items ≡ l.initial.found.items ++ keys_from l.block l.i
