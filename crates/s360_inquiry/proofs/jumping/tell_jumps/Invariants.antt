use Rattle.std.proofs.Common.{◌≡◌, take, flat_map}
use Rattle.s360_journal.specs.Recorded.{with_standing}
use Rattle.s360_inquiry.specs.Jumps.{IsSetter, jump_line}
use Rattle.s360_inquiry.proofs.jumping.tell_jumps.Given as goal

abbrev pub invariant-loop-number : goal.invariant-loop-number
invariant-loop-number l = record {
  text : l.text ≡ flat_map (jump_line l.initial.recording) (take l.number-index l.numbers);
  setter : IsSetter l.initial.recording l.setter;
  kept : l.recording ≡ with_standing l.initial.recording l.recording.standing;
}
