use Rattle.std.proofs.Common.{◌≡◌, ◌++◌, drop}
use Rattle.s360_journal.specs.Recorded.{with_standing}
use Rattle.s360_inquiry.specs.Visits.{visit_lines}
use Rattle.s360_inquiry.proofs.visit.push_visits.Given as goal

abbrev pub invariant-loop-number : goal.invariant-loop-number
invariant-loop-number l = record {
  text : l.initial.text ++ visit_lines l.initial.recording l.initial.before l.numbers
      ≡ l.text ++ visit_lines l.initial.recording l.before (drop l.number-index l.numbers);
  kept : l.recording ≡ with_standing l.initial.recording l.recording.standing;
}
