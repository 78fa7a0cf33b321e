use Rattle.std.proofs.Common.{◌≡◌, take}
use Rattle.s360_journal.specs.Recorded.{with_standing}
use Rattle.s360_inquiry.specs.ItemChanges.{alters_item, last_that}
use Rattle.s360_inquiry.proofs.item.last_change.Given as goal

abbrev pub invariant-loop-index : goal.invariant-loop-index
invariant-loop-index l = record {
  number : last_that (alters_item l.initial.recording l.unit l.item) l.numbers.items
      ≡ last_that (alters_item l.initial.recording l.unit l.item) (take l.index l.numbers.items);
  kept : l.recording ≡ with_standing l.initial.recording l.recording.standing;
}
