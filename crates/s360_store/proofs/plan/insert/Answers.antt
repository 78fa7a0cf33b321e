use Rattle.std.proofs.Common.{ap, ◌∙◌}
use Rattle.s360_store.specs.PlanParts.{cells_of_entries}
use Rattle.s360_store.proofs.PlanPartLemmas.{cells_of_entries-insert_entry}
use Rattle.s360_store.proofs.plan.insert.Goals as goal

pub returns-clause-ok : goal.returns-clause-ok
returns-clause-ok c = ap cells_of_entries c.in_ok-insert.ensures.entries ∙ cells_of_entries-insert_entry c.args.map.now.entries c.args.place c.args.value
