use Rattle.std.proofs.Common.{◌≡◌, take, flat_map}
use Rattle.s360_journal.specs.Recorded.{with_standing}
use Rattle.s360_inquiry.specs.Stores.{store_text}
use Rattle.s360_inquiry.proofs.storing.tell_stores.Given as goal

abbrev pub invariant-loop-number : goal.invariant-loop-number
invariant-loop-number l = record {
  text : l.text ≡ flat_map (store_text l.initial.recording l.extent) (take l.number-index l.numbers);
  kept : l.recording ≡ with_standing l.initial.recording l.recording.standing;
}
