use Rattle.s360_footprint.proofs.EventLawLemmas.{event-decided}
use Rattle.s360_footprint.proofs.laws.deciders_decide_the_event.Goals as goal

pub returns : goal.returns
returns c = event-decided
