use Rattle.std.proofs.Common.{◌∙◌, sym}
use Rattle.s360_language.specs.declared.show_items.ItemForm.TheVariants.{OnItsLine}
use Rattle.s360_language.specs.ShownItems.{typed_told}
use Rattle.s360_saving.proofs.SavingLemmas.{no_item, told-item}
use Rattle.s360_saving.proofs.console_lines.push_all_typed.Goals as goal
use Rattle.s360_saving.proofs.console_lines.push_all_typed.Goals.{in-Some+in_ok-push_typed, in_default}

pub loop-index-preserved : goal.loop-index-preserved
loop-index-preserved c = elim c.match-typed.branch [
  | in-Some+in_ok-push_typed w ↦ told-item (typed_told OnItsLine) c.args.media.now.media.typed c.loop-index.index w.in-Some.item.now c.args.text.now _ _
      (sym (rw w.in-Some.is at c.typed.ensures)) c.loop-index.invariant (w.text-is ∙ w.in_ok-push_typed.ensures)
  | in_default w ↦ absurd (no_item c.args.media.now.media.typed c.loop-index.index (rw c.typed_count-index-end.ensures at c.loop-index-test.true) (rw w.in_default.is at c.typed.ensures))
]
