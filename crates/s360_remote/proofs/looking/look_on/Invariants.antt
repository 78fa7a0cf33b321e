use Rattle.std.proofs.Common.{◌-◌}
use Rattle.s360_remote.specs.Moving.{most_looks}
use Rattle.s360_remote.proofs.LookingLemmas.{IsLooking}
use Rattle.s360_remote.proofs.looking.look_on.Given as goal

abbrev pub invariant-loop-event : goal.invariant-loop-event
invariant-loop-event l = IsLooking l.points l.reach l.initial.session l.session most_looks (most_looks - l._event)
