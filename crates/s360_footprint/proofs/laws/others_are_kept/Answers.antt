use Rattle.s360_footprint.proofs.RowLemmas.{keeps-others}
use Rattle.s360_footprint.proofs.laws.others_are_kept.Goals as goal

pub returns : goal.returns
returns g c = keeps-others _
