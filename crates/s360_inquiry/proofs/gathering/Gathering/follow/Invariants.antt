use Rattle.s360_inquiry.specs.Gatherings.{Gathers}
use Rattle.s360_inquiry.proofs.gathering.Gathering.follow.Given as goal

abbrev pub invariant-loop-place : goal.invariant-loop-place
invariant-loop-place l = Gathers l.fn.recording l.fn.recording.standing l.fn.self l.self
