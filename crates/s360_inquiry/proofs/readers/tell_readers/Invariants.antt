use Rattle.std.proofs.Common.{◌≡◌, take, flat_map}
use Rattle.s360_journal.specs.Recorded.{with_standing}
use Rattle.s360_inquiry.specs.Readers.{reader_text}
use Rattle.s360_inquiry.proofs.readers.tell_readers.Given as goal

abbrev pub invariant-loop-number : goal.invariant-loop-number
invariant-loop-number l = record {
  text : l.text ≡ flat_map (reader_text l.initial.recording l.extent) (take l.number-index l.numbers);
  kept : l.recording ≡ with_standing l.initial.recording l.recording.standing;
}
