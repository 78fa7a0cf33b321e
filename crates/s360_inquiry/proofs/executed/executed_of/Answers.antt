use Rattle.std.proofs.Common.{◌∙◌, ap}
use Rattle.s360_model.specs.Psw.{instruction_address_of}
use Rattle.s360_fixed.specs.View.{View}
use Rattle.s360_inquiry.specs.Executed.{performed_at}
use Rattle.s360_inquiry.proofs.ExecutedLemmas.{executed-planned}
use Rattle.s360_inquiry.proofs.executed.executed_of.Goals as goal

pub returns : goal.returns
returns c =
    executed-planned c.args.fetched.now.view.core _ c.in_ok-planned.planned c.performed_at_address.result
    (c.performed_at_address.ensures ∙ ap (λ (v : View). performed_at v.core (instruction_address_of v.core.psw)) c.view.ensures)
    c.in_ok-planned.ensures
