use Rattle.std.proofs.Common.{◌≡◌, bytes_eq}
use Rattle.s360_channel.specs.Gathered.{left_of}
use Rattle.s360_channel.proofs.gathered.GatheredPartialEq.eq.Given as goal

abbrev pub invariant-loop-one : goal.invariant-loop-one
invariant-loop-one l = bytes_eq (left_of l.ours) (left_of l.theirs) ≡ bytes_eq l.self l.other
