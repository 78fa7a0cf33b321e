use Rattle.s360_footprint.proofs.EventLawLemmas.{event-keeps-others}
use Rattle.s360_footprint.proofs.laws.others_are_kept_by_the_event.Goals as goal

pub returns : goal.returns
returns c = event-keeps-others
