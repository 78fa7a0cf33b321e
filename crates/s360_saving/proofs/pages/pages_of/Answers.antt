use Rattle.std.proofs.Common.{sym}
use Rattle.s360_saving.specs.Pages.{pages_file}
use Rattle.s360_saving.proofs.SavingLemmas.{no_item, pages-next}
use Rattle.s360_saving.proofs.pages.pages_of.Goals as goal
use Rattle.s360_saving.proofs.pages.pages_of.Goals.{in-Some+in_ok-push_record, in_default}

pub loop-index-preserved : goal.loop-index-preserved
loop-index-preserved c = elim c.match-record.branch [
  | in-Some+in_ok-push_record w ↦ rw (w.text-is, w.before-is, w.place_of.ensures, w.in_ok-push_record.ensures)
      (pages-next c.args.media.now.media.records c.loop-index.index w.in-Some.printed.now c.loop-index.before c.loop-index.text (pages_file c.args.media.now.media.records)
      (sym (rw w.in-Some.is at c.record.ensures)) c.loop-index.invariant)
  | in_default w ↦ absurd (no_item c.args.media.now.media.records c.loop-index.index (rw c.records-index-end.ensures at c.loop-index-test.true) (rw w.in_default.is at c.record.ensures))
]
