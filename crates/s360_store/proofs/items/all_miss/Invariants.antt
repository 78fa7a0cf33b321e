use Rattle.std.proofs.Common.{take}
use Rattle.s360_store.specs.Items.{AllMiss}
use Rattle.s360_store.proofs.items.all_miss.Given as goal

abbrev pub invariant-loop-item : goal.invariant-loop-item
invariant-loop-item l = AllMiss (take l.item-index l.items) l.address l.count
