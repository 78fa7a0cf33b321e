use Rattle.std.proofs.Common.{rules}
use Rattle.s360_debug.proofs.Runs.{IsStopped-unread, AreCarriedOut-cut}
use Rattle.s360_debug.proofs.script.carry_out.Goals as goal

pub returns-in_default-clause-memory : goal.returns-in_default-clause-memory
returns-in_default-clause-memory g c = λ e. IsStopped-unread _ _ _

pub returns-in-Err-clause-write : goal.returns-in-Err-clause-write
returns-in-Err-clause-write g c = λ e. AreCarriedOut-cut _ _ _ _ _ (c.run_script-answered.ensures.write (search rules))
