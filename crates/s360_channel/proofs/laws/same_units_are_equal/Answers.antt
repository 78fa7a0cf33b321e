use Rattle.s360_channel.proofs.DifferenceLemmas.{same_state-Decides, same_unit-Decides}
use Rattle.s360_channel.proofs.laws.same_units_are_equal.Goals as goal

pub returns-clause-state : goal.returns-clause-state
returns-clause-state c = same_state-Decides

pub returns-clause-unit : goal.returns-clause-unit
returns-clause-unit c = same_unit-Decides
