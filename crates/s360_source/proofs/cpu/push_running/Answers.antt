use Rattle.s360_machine.specs.Machine.{seen}
use Rattle.s360_source.proofs.EventLemmas.{external-running}
use Rattle.s360_source.proofs.cpu.push_running.Goals as goal

pub returns-then-branch : goal.returns-then-branch
returns-then-branch c =
    external-running c.args.question (seen c.args.machine.now.whole) c.args.found.now.items _ _ _ c.in_ok-push_external_conditions.ensures.comes
    c.if-branch.true c.in_ok-push_external_conditions.ensures.read (c.in_ok-push_external.ensures (seen c.args.machine.now.whole))
