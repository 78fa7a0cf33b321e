use Rattle.std.proofs.Common.{◌≡◌, ◌-◌, ℕ, Option, Some, ap, ◌∙◌, sym}
use Rattle.s360_model.specs.Psw.{instruction_address_of}
use Rattle.s360_machine.specs.declared.event_kind.EventKind.{EventKind}
use Rattle.s360_machine.specs.Machine.{Machine, seen}
use Rattle.s360_journal.specs.Recorded.{Recorded}
use Rattle.s360_inquiry.specs.Changes.{event_words, kind_of_change, machine_after, words_of_change}
use Rattle.s360_inquiry.specs.Jumps.{jump_if, jump_of_change}
use Rattle.s360_inquiry.proofs.JumpLemmas.{gone-on, led-told, machine-there}
use Rattle.s360_inquiry.proofs.jumping.push_led.Goals as goal

pub returns-clause-text : goal.returns-clause-text
returns-clause-text c =
    let r : Recorded = c.args.recording.now
    in let before : Recorded = c.go_before.new.recording
    in let number : ℕ = c.args.number
    in let is : c.in_ok-kind.kind ≡ kind_of_change r number = c.in_ok-kind.ensures.kind
    in let m : seen c.machine.result.now.whole ≡ machine_after r (number - 1) = machine-there r before (number - 1) _ c.in_ok-kind.ensures.state c.machine.ensures.rerun
    in let m2 : seen c.machine-2.result.now.whole ≡ machine_after r (number - 1) = machine-there r before (number - 1) _ c.in_ok-kind.ensures.state c.machine-2.ensures.rerun
    in let gone = gone-on r before c.go_to.new.recording number c.in_ok-kind.ensures.state c.in_ok-go_to.ensures.state
    in let m3 : seen c.machine-3.result.now.whole ≡ machine_after r number = machine-there r c.go_to.new.recording number _ gone c.machine-3.ensures.rerun
    in let jump : Some c.in-Some.jump ≡ jump_of_change r number
    = sym c.in-Some.is ∙ c.in_ok-jump.ensures ∙ ap (λ (x : Machine). jump_if x c.in_ok-kind.kind) m ∙ ap (λ (k : Option EventKind). jump_if (machine_after r (number - 1)) k) is
    in let words : event_words number (seen c.machine-2.result.now.whole) c.in_ok-kind.kind ≡ words_of_change r number
    = ap (λ (x : Machine). event_words number x c.in_ok-kind.kind) m2 ∙ ap (λ (k : Option EventKind). event_words number (machine_after r (number - 1)) k) is
    in led-told r number _ c.in-Some.jump c.args.begun.now c.args.text.now _ _ _ _ jump words
    (c.instruction_address.ensures.value ∙ ap (λ (p : ℕ). instruction_address_of p) c.psw.ensures ∙ ap (λ (x : Machine). instruction_address_of x.core.psw) m3)
    c.in_ok-push_text.ensures c.in_ok-push_event_of.ensures c.in_ok-push_jump_words.ensures
