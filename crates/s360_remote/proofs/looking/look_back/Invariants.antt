use Rattle.std.proofs.Common.{◌-◌}
use Rattle.s360_remote.specs.Moving.{most_looks}
use Rattle.s360_remote.proofs.LookingLemmas.{IsLookingBack}
use Rattle.s360_remote.proofs.looking.look_back.Given as goal

abbrev pub invariant-loop-change : goal.invariant-loop-change
invariant-loop-change l = IsLookingBack l.points l.reach l.initial.session l.session most_looks (most_looks - l._change)
