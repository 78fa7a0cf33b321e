use Rattle.std.proofs.Common.{◌≡◌, ◌≤◌, ◌++◌, length, reverse}
use Rattle.s360_journal.specs.Recorded.{with_standing}
use Rattle.s360_inquiry.specs.Searches.{numbers_since}
use Rattle.s360_inquiry.specs.Sought.{ends, is_sought}
use Rattle.s360_inquiry.proofs.search.last_numbers.Given as goal

abbrev pub invariant-loop-before : goal.invariant-loop-before
invariant-loop-before l = record {
  numbers : numbers_since (ends l.sought l.initial.recording) (is_sought l.sought l.initial.recording) l.initial.recording.standing
      ≡ numbers_since (ends l.sought l.initial.recording) (is_sought l.sought l.initial.recording) l.before ++ reverse l.found.items;
  kept : l.recording ≡ with_standing l.initial.recording l.before;
  few : length l.found.items ≤ l.most;
}
