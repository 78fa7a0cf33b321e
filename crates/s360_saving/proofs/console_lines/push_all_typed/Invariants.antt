use Rattle.std.proofs.Common.{◌≡◌, ◌++◌, take, flat_map}
use Rattle.s360_language.specs.declared.show_items.ItemForm.TheVariants.{OnItsLine}
use Rattle.s360_language.specs.ShownItems.{typed_told}
use Rattle.s360_saving.proofs.console_lines.push_all_typed.Given as goal

abbrev pub invariant-loop-index : goal.invariant-loop-index
invariant-loop-index l = l.text ≡ l.initial.text ++ flat_map (typed_told OnItsLine) (take l.index l.media.media.typed)
