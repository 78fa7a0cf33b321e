use Rattle.s360_machine.specs.Machine.{seen}
use Rattle.s360_source.proofs.interruption.Before.push.Goals as goal

pub returns-in_ok-push_status-in-Status : goal.returns-in_ok-push_status-in-Status
returns-in_ok-push_status-in-Status c = rw c.in-Status.is (c.in_ok-push_status-in-Status.ensures (seen c.args.machine.now.whole))
