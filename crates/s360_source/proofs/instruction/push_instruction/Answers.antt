use Rattle.std.proofs.Common.{◌≡◌, ◌∙◌, ap}
use Rattle.s360_fixed.specs.ProgramCodes.{program_code}
use Rattle.s360_logic.specs.Instruction.{conditions_at}
use Rattle.s360_footprint.specs.FormRows.{form_rows}
use Rattle.s360_model.specs.Psw.{instruction_address_of}
use Rattle.s360_machine.specs.Machine.{Machine, seen}
use Rattle.s360_source.proofs.InstructionLemmas.{instruction-walked, unfetched-walked}
use Rattle.s360_source.proofs.instruction.push_instruction.Goals as goal

pub returns-in_ok-push_fetched-in-Ok : goal.returns-in_ok-push_fetched-in-Ok
returns-in_ok-push_fetched-in-Ok c =
    let m : Machine = seen c.args.machine.now.whole
    in instruction-walked c.args.question m c.new-address.result c.args.found.now.items _ _ _ (cc) c.in_ok-decide.ensures c.in_ok-push_fetch_conditions.ensures
    c.in_ok-push_fetched-in-Ok.ensures

pub returns-in-Err : goal.returns-in-Err
returns-in-Err c =
    let m : Machine = seen c.args.machine.now.whole
    in let at : c.new-address.result ≡ instruction_address_of m.core.psw = cc
    in instruction-walked c.args.question m c.new-address.result c.args.found.now.items _ _ _ at c.in_ok-decide.ensures c.in_ok-push_fetch_conditions.ensures
    (unfetched-walked c.args.question form_rows c.new-address.result m _ c.in-Err.field-0 c.push_fetch_conditions.new.found.items
    (ap (λ a. program_code (conditions_at m.core a)) at ∙ c.in-Err.ensures.err))
