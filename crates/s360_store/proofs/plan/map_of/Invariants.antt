use Rattle.std.proofs.Common.{◌≡◌, take}
use Rattle.s360_store.specs.PlanParts.{cells_of_entries}
use Rattle.s360_store.proofs.plan.map_of.Given as goal

abbrev pub invariant-loop-i : goal.invariant-loop-i
invariant-loop-i l = cells_of_entries l.map.entries ≡ take l.i l.cells
