use Rattle.std.proofs.Common.{◌≡◌, None}
use Rattle.s360_channel.proofs.UnitChangeLemmas.{units-stay}
use Rattle.s360_machine.proofs.machine.Machine.change_after_io.Goals as goal

pub returns-in_err-unit : goal.returns-in_err-unit
returns-in_err-unit c =
    let none : c.args.next ≡ None = c.in_err-unit.was
    in rw (c.from_residual.ensures, none) (units-stay c.args.self.now.whole.units)
