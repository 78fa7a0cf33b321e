use Rattle.s360_logic.proofs.StepLemmas.{stored_in-single}
use Rattle.s360_logic.proofs.immediate.put_byte.Goals as goal

pub returns : goal.returns
returns g c =
    rw (c.set.ensures, c.new-operand.ensures.is, c.storage.ensures.storage, stored_in-single c.args.view.now.core.storage c.args.address c.args.byte c.requires.inside) at c.put.ensures
