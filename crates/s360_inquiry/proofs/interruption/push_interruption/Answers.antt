use Rattle.std.proofs.Common.{◌∙◌, sym}
use Rattle.s360_inquiry.proofs.JumpLemmas.{interruption-told}
use Rattle.s360_inquiry.proofs.interruption.push_interruption.Goals as goal

pub returns-clause-text : goal.returns-clause-text
returns-clause-text c =
    interruption-told c.args.recording.now c.args.number c.in-Some.jump c.args.text.now _ _ _
    (sym c.in-Some.is ∙ c.in_ok-jump.ensures.jump) c.in_ok-jump.ensures.text c.in_ok-push_exception.ensures c.in_ok-push_text.ensures
