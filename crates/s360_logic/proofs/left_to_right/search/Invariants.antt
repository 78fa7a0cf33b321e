use Rattle.std.proofs.Common.{◌≡◌, ◌-◌}
use Rattle.s360_store.specs.Protection.{met_of_both}
use Rattle.s360_logic.specs.LeftToRight.{found_at, search_access}
use Rattle.s360_logic.proofs.left_to_right.search.Given as goal

abbrev pub invariant-loop-i : goal.invariant-loop-i
invariant-loop-i l = record {
  found : found_at l.table l.field.address l.i (l.field.count - l.i) l.storage ≡ found_at l.table l.field.address 0 l.field.count l.storage;
  met : met_of_both l.met (search_access l.table l.key l.field.address l.i (l.field.count - l.i) l.storage) ≡ search_access l.table l.key l.field.address 0 l.field.count l.storage;
}
