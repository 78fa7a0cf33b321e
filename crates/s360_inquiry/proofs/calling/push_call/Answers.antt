use Rattle.std.proofs.Common.{◌≡◌, ◌-◌, ◌++◌, ◌∷◌, [], ℕ, List, Option, ap, ◌∙◌, codes, subst}
use Rattle.s360_machine.specs.declared.event_kind.EventKind.{EventKind}
use Rattle.s360_machine.specs.Machine.{Machine, seen}
use Rattle.s360_journal.specs.Recorded.{Recorded}
use Rattle.s360_inquiry.specs.Calls.{line_of_call, returning_words}
use Rattle.s360_inquiry.specs.Tellings.{IsTold}
use Rattle.s360_inquiry.specs.Changes.{event_words, kind_of_change, machine_after, words_of_change}
use Rattle.s360_inquiry.proofs.JumpLemmas.{machine-there}
use Rattle.s360_inquiry.proofs.calling.push_call.Goals as goal

pub returns-clause-told : goal.returns-clause-told
returns-clause-told c =
    let r : Recorded = c.args.recording.now
    in let number : ℕ = c.args.found.call.number
    in let is : c.in_ok-kind.kind ≡ kind_of_change r number = c.in_ok-kind.ensures.kind
    in let m : seen c.machine.result.now.whole ≡ machine_after r (number - 1)
    = machine-there r c.go_before.new.recording (number - 1) _ c.in_ok-kind.ensures.state c.machine.ensures.rerun
    in let words : event_words number (seen c.machine.result.now.whole) c.in_ok-kind.kind ≡ words_of_change r number
    = ap (λ (x : Machine). event_words number x c.in_ok-kind.kind) m ∙ ap (λ (k : Option EventKind). event_words number (machine_after r (number - 1)) k) is
    in let first : c.push_event_of.new.text ≡ words_of_change r number
    = c.in_ok-push_event_of.ensures ∙ ap (λ (t : List ℕ). t ++ event_words number (seen c.machine.result.now.whole) c.in_ok-kind.kind) c.new-line.ensures ∙ words
    in let whole : c.as_bytes.result.now ≡ line_of_call r c.args.found
    = c.as_bytes.ensures
    ∙ c.in_ok-push_text.ensures
    ∙ ap (λ (t : List ℕ). t ++ codes "\n")
    (c.in_ok-push_returning.ensures ∙ ap (λ (t : List ℕ). t ++ returning_words c.args.found.call c.args.found.now) first)
    in λ lines told. subst (λ (l : List ℕ). IsTold (lines ++ l ∷ []) c.push.new.self) whole (c.in_ok-push.ensures lines told)
