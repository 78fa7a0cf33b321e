use Rattle.std.proofs.Common.{◌≡◌, ◌-◌, ◌++◌, ℕ, [], ap, ◌∙◌, sym}
use Rattle.s360_model.specs.Psw.{condition_code_of}
use Rattle.s360_machine.specs.Machine.{Machine, seen}
use Rattle.s360_journal.specs.Recorded.{Recorded, with_standing}
use Rattle.s360_inquiry.specs.Changes.{just_before, machine_after}
use Rattle.s360_inquiry.specs.CodeSettings.{setter_in}
use Rattle.s360_inquiry.specs.Jumps.{jump_of_change, led_if}
use Rattle.s360_inquiry.proofs.JumpLemmas.{jump-told, machine-there}
use Rattle.s360_inquiry.proofs.jumping.push_jump.Goals as goal

pub returns-clause-text : goal.returns-clause-text
returns-clause-text c =
    let r : Recorded = c.args.recording.now
    in let number : ℕ = c.args.number
    in let before : c.go_before.new.recording ≡ just_before r number = c.in_ok-_kind.ensures.state
    in let m : seen c.machine.result.now.whole ≡ machine_after r (number - 1)
    = machine-there r c.go_before.new.recording (number - 1) _ c.in_ok-_kind.ensures.state c.machine.ensures.rerun
    in jump-told r number _ c.in-Some.jump c.args.setter.now.words c.args.text.now _ _ _
    (sym c.in-Some.is ∙ c.in_ok-jump.ensures.jump ∙ ap (λ (x : Recorded). jump_of_change x number) before)
    (c.in_ok-jump.ensures.text ∙ ap (λ (x : Recorded). c.args.text.now ++ led_if [] x number (jump_of_change x number)) before)
    (c.condition_code-code.ensures ∙ ap (λ (p : ℕ). condition_code_of p) c.psw.ensures ∙ ap (λ (x : Machine). condition_code_of x.core.psw) m)
    (c.requires.setter ∙ ap (λ (n : ℕ). setter_in (with_standing r n)) c.requires.before)
    c.in_ok-push_decided.ensures c.in_ok-push_text.ensures
