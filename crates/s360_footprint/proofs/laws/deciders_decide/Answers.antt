use Rattle.s360_footprint.proofs.RowLemmas.{row-decided}
use Rattle.s360_footprint.proofs.laws.deciders_decide.Goals as goal

pub returns : goal.returns
returns g c = row-decided _
