use Rattle.s360_machine.proofs.ChangeLemmas.{leaves-nothing}
use Rattle.s360_machine.proofs.beside.Beside.clear.Goals as goal

pub returns-then-is_empty : goal.returns-then-is_empty
returns-then-is_empty c = λ w. leaves-nothing c.args.self.now (c.is_empty.ensures c.if-is_empty.true) w
