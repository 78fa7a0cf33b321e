use Rattle.s360_footprint.proofs.RowLemmas.{follows}
use Rattle.s360_footprint.proofs.laws.values_follow_their_sources.Goals as goal

pub returns : goal.returns
returns g c = follows _
