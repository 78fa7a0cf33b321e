use Rattle.s360_machine.proofs.machine.Machine.put_changes.Goals as goal

pub put_change-requires-clause-leaves : goal.put_change-requires-clause-leaves
put_change-requires-clause-leaves c = c.clear-2.ensures c.args.self.now.whole
