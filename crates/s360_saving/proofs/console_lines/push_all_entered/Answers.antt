use Rattle.std.proofs.Common.{◌∙◌, sym}
use Rattle.s360_saving.specs.ConsoleLines.{entered_line}
use Rattle.s360_saving.proofs.SavingLemmas.{no_item, told-item}
use Rattle.s360_saving.proofs.console_lines.push_all_entered.Goals as goal
use Rattle.s360_saving.proofs.console_lines.push_all_entered.Goals.{in-Some+in_ok-push_entered, in_default}

pub loop-index-preserved : goal.loop-index-preserved
loop-index-preserved c = elim c.match-line.branch [
  | in-Some+in_ok-push_entered w ↦ told-item entered_line c.args.media.now.media.entered c.loop-index.index w.in-Some.line.now c.args.text.now _ _
      (sym (rw w.in-Some.is at c.line.ensures)) c.loop-index.invariant (w.text-is ∙ w.in_ok-push_entered.ensures)
  | in_default w ↦ absurd (no_item c.args.media.now.media.entered c.loop-index.index (rw c.entered_count-index-end.ensures at c.loop-index-test.true) (rw w.in_default.is at c.line.ensures))
]
