use Rattle.std.proofs.Common.{◌≡◌}
use Rattle.s360_inquiry.specs.Gatherings.{Gathers}
use Rattle.s360_inquiry.proofs.gathering.Gathering.meet.Given as goal

abbrev pub invariant-loop-node : goal.invariant-loop-node
invariant-loop-node l = record {
  gathered : Gathers l.fn.recording l.number l.fn.self l.self;
  same : l.recording ≡ l.fn.recording;
}
