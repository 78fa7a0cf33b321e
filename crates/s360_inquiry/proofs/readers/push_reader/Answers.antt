use Rattle.std.proofs.Common.{◌≡◌, ◌-◌, ℕ, Option, ap, ◌∙◌}
use Rattle.s360_machine.specs.declared.event_kind.EventKind.{EventKind}
use Rattle.s360_machine.specs.Machine.{Machine, seen}
use Rattle.s360_journal.specs.Recorded.{Recorded}
use Rattle.s360_inquiry.specs.Changes.{event_words, kind_of_change, machine_after, words_of_change}
use Rattle.s360_inquiry.proofs.JumpLemmas.{gone-on, machine-there}
use Rattle.s360_inquiry.proofs.ReaderLemmas.{reader-told}
use Rattle.s360_inquiry.proofs.readers.push_reader.Goals as goal

pub returns-clause-text : goal.returns-clause-text
returns-clause-text c =
    let r : Recorded = c.args.recording.now
    in let before : Recorded = c.go_before.new.recording
    in let number : ℕ = c.args.number
    in let is : c.in_ok-kind.kind ≡ kind_of_change r number = c.in_ok-kind.ensures.kind
    in let m : seen c.machine.result.now.whole ≡ machine_after r (number - 1) = machine-there r before (number - 1) _ c.in_ok-kind.ensures.state c.machine.ensures.rerun
    in let words : event_words number (seen c.machine.result.now.whole) c.in_ok-kind.kind ≡ words_of_change r number
    = ap (λ (x : Machine). event_words number x c.in_ok-kind.kind) m ∙ ap (λ (k : Option EventKind). event_words number (machine_after r (number - 1)) k) is
    in reader-told r before c.go_to.new.recording _ c.args.extent number _ c.args.text.now _ _ _ _ c.in_ok-kind.ensures.state
    (gone-on r before _ number c.in_ok-kind.ensures.state c.in_ok-go_to.ensures.state) c.machine-2.ensures.rerun (c.as_slice.ensures.value ∙ c.in_ok-made.ensures) words
    c.in_ok-push_event_of.ensures c.in_ok-push_text.ensures c.in_ok-push_all_made.ensures
