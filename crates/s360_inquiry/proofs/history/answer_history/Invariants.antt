use Rattle.std.proofs.Common.{◌≡◌, ◌-◌}
use Rattle.s360_journal.specs.Recorded.{with_standing}
use Rattle.s360_inquiry.specs.Histories.{lines_from}
use Rattle.s360_inquiry.proofs.history.answer_history.Given as goal

abbrev pub invariant-loop-number : goal.invariant-loop-number
invariant-loop-number l = record {
  text : l.text ≡ lines_from l.initial.recording l.first (l.number - l.first);
  kept : l.recording ≡ with_standing l.initial.recording l.number;
}
