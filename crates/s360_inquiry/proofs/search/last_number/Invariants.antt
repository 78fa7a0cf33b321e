use Rattle.std.proofs.Common.{◌≡◌, ◌≤◌}
use Rattle.s360_journal.specs.Recorded.{with_standing}
use Rattle.s360_inquiry.specs.Searches.{last_up_to}
use Rattle.s360_inquiry.specs.Sought.{is_sought}
use Rattle.s360_inquiry.proofs.search.last_number.Given as goal

abbrev pub invariant-loop-before : goal.invariant-loop-before
invariant-loop-before l = record {
  number : last_up_to (is_sought l.sought l.initial.recording) l.before
      ≡ last_up_to (is_sought l.sought l.initial.recording) l.initial.recording.standing;
  kept : l.recording ≡ with_standing l.initial.recording l.before;
  least : l.least ≤ l.before;
}
