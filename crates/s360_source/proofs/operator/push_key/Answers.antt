use Rattle.s360_machine.specs.Machine.{Machine, seen}
use Rattle.s360_source.proofs.EventLemmas.{reset-walked}
use Rattle.s360_source.proofs.operator.push_key.Goals as goal

pub returns-in_ok-push_reset-in-Reset : goal.returns-in_ok-push_reset-in-Reset
returns-in_ok-push_reset-in-Reset c =
    let m : Machine = seen c.args.machine.now.whole
    in reset-walked c.args.question m c.args.key.now c.args.found.now.items _ c.in-Reset.is (c.in_ok-push_reset-in-Reset.ensures m)
