use Rattle.s360_channel.proofs.UnitChangeLemmas.{asks-already, asks-now}
use Rattle.s360_channel.proofs.units.Units.change_of_attention.Goals as goal

pub returns-then-control : goal.returns-then-control
returns-then-control c = asks-already c.args.self.now c.args.unit (rw c.control.ensures.control at c.if-control.true)

pub returns-else-control : goal.returns-else-control
returns-else-control c = asks-now c.args.self.now c.args.unit c.control.ensures.each (rw c.control.ensures.control at c.if-control.false)
