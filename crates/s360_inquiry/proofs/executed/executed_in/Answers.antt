use Rattle.std.proofs.Common.{◌≡◌, ◌∙◌, ap}
use Rattle.s360_model.specs.Psw.{instruction_address_of}
use Rattle.s360_inquiry.proofs.ExecutedLemmas.{executed-refused}
use Rattle.s360_inquiry.proofs.executed.executed_in.Goals as goal

pub returns-in-Err : goal.returns-in-Err
returns-in-Err c =
    let next : c.instruction_address.result ≡ instruction_address_of c.args.machine.now.whole.core.psw = c.instruction_address.ensures.value ∙ ap instruction_address_of c.psw.ensures
    in rw next (executed-refused c.args.machine.now.whole.core c.in-Err.code c.in-Err.ensures.err)
