use Rattle.std.proofs.Common.{◌≡◌, ◌≤◌, length}
use Rattle.s360_journal.specs.Recorded.{with_standing}
use Rattle.s360_inquiry.specs.Gatherings.{IsGathering}
use Rattle.s360_inquiry.proofs.gathering.gather.Given as goal

abbrev pub invariant-loop-before : goal.invariant-loop-before
invariant-loop-before l = record {
  gathered : IsGathering (with_standing l.fn.recording 0) l.before l.gathering;
  kept : l.recording ≡ with_standing l.fn.recording l.before;
  within : l.before ≤ length l.fn.recording.events;
}
