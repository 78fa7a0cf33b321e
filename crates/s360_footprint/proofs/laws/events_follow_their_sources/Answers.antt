use Rattle.s360_footprint.proofs.EventLawLemmas.{event-follows}
use Rattle.s360_footprint.proofs.laws.events_follow_their_sources.Goals as goal

pub returns : goal.returns
returns c = event-follows
