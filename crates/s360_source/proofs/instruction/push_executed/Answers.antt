use Rattle.std.proofs.Common.{◌∙◌, sym}
use Rattle.s360_machine.specs.Machine.{seen}
use Rattle.s360_footprint.specs.FormRows.{form_rows}
use Rattle.s360_source.proofs.InstructionLemmas.{executed-walked}
use Rattle.s360_source.proofs.instruction.push_executed.Goals as goal

pub returns-in_ok-push_execute-in-Rx : goal.returns-in_ok-push_execute-in-Rx
returns-in_ok-push_execute-in-Rx c next long =
    executed-walked c.args.question form_rows (seen c.args.machine.now.whole) next long c.args.form.now c.in-Rx.operation c.in-Rx.r1 c.in-Rx.x2 c.in-Rx.b2
    c.in-Rx.d2 _ c.args.found.now.items _ _ (sym c.is_execute.ensures ∙ c.if-not-is_execute.false) c.in-Rx.is c.in_ok-address-in-Rx.ensures.address
    c.in_ok-address-in-Rx.ensures.read (c.in_ok-push_execute-in-Rx.ensures next long)
