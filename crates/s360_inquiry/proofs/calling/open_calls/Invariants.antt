use Rattle.std.proofs.Common.{◌≡◌, reverse}
use Rattle.s360_journal.specs.Recorded.{with_standing}
use Rattle.s360_inquiry.specs.Calls.{open_calls}
use Rattle.s360_inquiry.proofs.calling.open_calls.Given as goal

abbrev pub invariant-loop-before : goal.invariant-loop-before
invariant-loop-before l = record {
  calls : reverse l.calls.items ≡ open_calls l.initial.recording l.before;
  kept : l.recording ≡ with_standing l.initial.recording l.before;
}
