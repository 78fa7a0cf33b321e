use Rattle.s360_debug.proofs.Runs.{IsStopped-unread}
use Rattle.s360_debug.proofs.run.run_script.Goals as goal

pub returns-in_err-script-clause-memory : goal.returns-in_err-script-clause-memory
returns-in_err-script-clause-memory g c = λ e. IsStopped-unread _ _ _
