use Rattle.s360_footprint.proofs.EventLawLemmas.{events-are-rows}
use Rattle.s360_footprint.proofs.laws.events_are_rows.Goals as goal

pub returns : goal.returns
returns c = events-are-rows
