use Rattle.std.proofs.Common.{◌≡◌, ◌++◌, drop}
use Rattle.s360_tape.specs.Images.{items_file, tape_file}
use Rattle.s360_tape.proofs.awstape.image_of.Given as goal

abbrev pub invariant-loop-item : goal.invariant-loop-item
invariant-loop-item l = l.file.items ++ items_file l.previous (drop l.item-index l.item-items) ≡ tape_file l.item-items
