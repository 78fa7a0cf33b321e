-- A plan as it stands in memory: cells, or a map (kept).
use Rattle.std.specs.Prelude.{◌≤◌, ℕ, List, length, map}
use Rattle.s360_store.specs.declared.place.Place.{Place}
use Rattle.s360_store.specs.declared.place.Cell.{Cell}
use Rattle.s360_store.specs.declared.plan.Planned.{Planned}
use Rattle.s360_store.specs.declared.plan.Planned.TheVariants.{Cells, Map}
use Rattle.s360_store.specs.Cells.{HasEachOnce}

-- the entries of a map as cells
abbrev pub cells_of_entries : List (Place × ℕ) → List Cell
cells_of_entries es = map (λ (e : Place × ℕ). record { place = e.0; value = e.1 }) es

-- the cells of a plan
abbrev pub cells_of_planned : Planned → List Cell
cells_of_planned (Cells cs) = cs
cells_of_planned (Map m) = cells_of_entries m.entries

-- no place comes twice, and there are at most so many
pub record IsPlan (cs : List Cell) : Type 0 where
  pub once : HasEachOnce cs
  pub few : length cs ≤ 1000000
