use Rattle.s360_machine.proofs.StepLemmas.{ExecutesProgram-none, ExecutesProgram-step}
use Rattle.s360_machine.proofs.channel_event.execute_unit.Goals as goal

pub returns-in_default : goal.returns-in_default
returns-in_default g c = ExecutesProgram-none _ _ _ _ c.in_default.not-Active

pub returns : goal.returns
returns g c = ExecutesProgram-step _ _ _ _ c.in-Active.program _ _ c.in-Active.is c.in_ok-executed.ensures.executes c.unit_step.ensures.control c.unit_step.ensures.change c.unit_step.ensures.stores
