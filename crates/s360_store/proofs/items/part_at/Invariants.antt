use Rattle.std.proofs.Common.{drop}
use Rattle.s360_store.specs.Items.{cells_of_items}
use Rattle.s360_store.proofs.ItemLemmas.{Rest, Sought}
use Rattle.s360_store.proofs.items.part_at.Given as goal

abbrev pub invariant-loop-item : goal.invariant-loop-item
invariant-loop-item l = record {
  rest : Rest l.items l.item-index l.rest;
  sought : Sought (cells_of_items l.items l.bytes) l.i l.left (cells_of_items (drop l.item-index l.items) l.rest);
}
