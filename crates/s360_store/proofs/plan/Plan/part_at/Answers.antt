use Rattle.s360_store.specs.PlanParts.{cells_of_entries}
use Rattle.s360_store.proofs.ItemLemmas.{IsPartAt-cell}
use Rattle.s360_store.proofs.plan.Plan.part_at.Goals as goal

pub returns-in-Map : goal.returns-in-Map
returns-in-Map c = rw (← c.self.view_is, c.in-Map.is) (IsPartAt-cell (cells_of_entries c.in-Map.map.entries) c.args.i c.entry.result c.entry.ensures)
