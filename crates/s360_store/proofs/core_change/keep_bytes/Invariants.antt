use Rattle.std.proofs.Common.{◌+◌, ◌-◌, ◌∷◌, length}
use Rattle.s360_store.specs.declared.place.Place.TheVariants.{Byte, Psw}
use Rattle.s360_store.specs.Cells.{places_of_cells}
use Rattle.s360_store.specs.CoreChanges.{AllBefore}
use Rattle.s360_store.specs.Order.{IsAscending}
use Rattle.s360_store.proofs.KeepLemmas.{Keeping}
use Rattle.s360_store.proofs.core_change.keep_bytes.Given as goal

abbrev pub invariant-loop-at : goal.invariant-loop-at
invariant-loop-at l = record {
  keeping : Keeping l.core l.initial.kept l.kept l.address l.new l.at l.at;
  ascending : IsAscending (Psw ∷ places_of_cells l.kept);
  before : AllBefore l.kept (Byte (l.address + l.at));
}

abbrev pub decreases-loop-at : goal.decreases-loop-at
decreases-loop-at l = length l.new - l.at
