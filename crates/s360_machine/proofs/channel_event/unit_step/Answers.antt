use Rattle.s360_machine.proofs.StepLemmas.{StepsTo-not_yet}
use Rattle.s360_machine.proofs.channel_event.unit_step.Goals as goal

pub returns-in-NotYet-clause-control : goal.returns-in-NotYet-clause-control
returns-in-NotYet-clause-control g c = rw c.in-NotYet.is (StepsTo-not_yet g.row.C.Denot c.args.unit.now)
