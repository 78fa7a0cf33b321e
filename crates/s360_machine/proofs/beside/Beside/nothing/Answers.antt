use Rattle.std.proofs.Common.{refl}
use Rattle.s360_machine.proofs.ChangeLemmas.{leaves-nothing}
use Rattle.s360_machine.proofs.beside.Beside.nothing.Goals as goal

pub returns-clause-leaves : goal.returns-clause-leaves
returns-clause-leaves c = λ w. leaves-nothing _ (record { control = refl; units = refl; media = refl }) w
