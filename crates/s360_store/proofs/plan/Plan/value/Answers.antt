use Rattle.std.proofs.Common.{◌∙◌}
use Rattle.s360_store.proofs.PlanPartLemmas.{lookup-cells_of_entries}
use Rattle.s360_store.proofs.plan.Plan.value.Goals as goal

pub returns-in-Map : goal.returns-in-Map
returns-in-Map c = rw (← c.self.view_is, c.in-Map.is) (c.copied.ensures ∙ c.get.ensures.value ∙ lookup-cells_of_entries c.in-Map.map.entries c.args.place)
