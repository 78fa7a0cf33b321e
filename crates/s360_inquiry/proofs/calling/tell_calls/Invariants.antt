use Rattle.std.proofs.Common.{◌≡◌, map, take}
use Rattle.s360_journal.specs.Recorded.{with_standing}
use Rattle.s360_inquiry.specs.Calls.{line_of_call}
use Rattle.s360_inquiry.specs.Tellings.{IsTold}
use Rattle.s360_inquiry.proofs.calling.tell_calls.Given as goal

abbrev pub invariant-loop-call : goal.invariant-loop-call
invariant-loop-call l = record {
  told : IsTold (map (line_of_call l.initial.recording) (take l.call-index l.calls)) l.telling;
  kept : l.recording ≡ with_standing l.initial.recording l.recording.standing;
}
