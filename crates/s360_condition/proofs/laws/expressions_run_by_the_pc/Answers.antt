use Rattle.s360_condition.proofs.PcLemmas.{value_is}
use Rattle.s360_condition.proofs.laws.expressions_run_by_the_pc.Goals as goal

pub returns : goal.returns
returns c = value_is
