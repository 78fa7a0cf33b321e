use Rattle.s360_machine.proofs.DifferenceLemmas.{same_external-Decides, same_run_state-Decides}
use Rattle.s360_machine.proofs.laws.same_run_states_and_conditions_are_equal.Goals as goal

pub returns-clause-run_state : goal.returns-clause-run_state
returns-clause-run_state c = same_run_state-Decides

pub returns-clause-external : goal.returns-clause-external
returns-clause-external c = same_external-Decides
