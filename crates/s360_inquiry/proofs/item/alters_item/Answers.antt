use Rattle.std.proofs.Common.{◌≡◌, ◌-◌, ℕ, List, not, nat_eq, ap, ◌∙◌}
use Rattle.std.specs.Cmp.Lexicographic.{pointwise}
use Rattle.s360_machine.specs.Machine.{Machine, seen}
use Rattle.s360_journal.specs.Recorded.{Recorded}
use Rattle.s360_inquiry.specs.Changes.{just_before, machine_after}
use Rattle.s360_inquiry.specs.ItemChanges.{whole_item}
use Rattle.s360_inquiry.proofs.JumpLemmas.{machine-there}
use Rattle.s360_inquiry.proofs.item.alters_item.Goals as goal

pub returns-clause-alters : goal.returns-clause-alters
returns-clause-alters c =
    let r : Recorded = c.args.recording.now
    in let number : ℕ = c.args.number
    in let then : seen c.machine.result.now.whole ≡ machine_after r number
    = machine-there r c.go_to.new.recording number _ c.in_ok-go_to.ensures.state c.machine.ensures.rerun
    in let first : seen c.machine-2.result.now.whole ≡ machine_after r (number - 1)
    = machine-there r c.go_before.new.recording (number - 1) _
    (c.in_ok-_kind.ensures.state ∙ ap (λ (x : Recorded). just_before x number) c.in_ok-go_to.ensures.state) c.machine-2.ensures.rerun
    in let after : c.as_bytes-2.result.now ≡ whole_item (machine_after r number) c.args.unit c.args.item
    = c.as_bytes-2.ensures ∙ c.in_ok-after.ensures ∙ ap (λ (m : Machine). whole_item m c.args.unit c.args.item) then
    in let before : c.as_bytes.result.now ≡ whole_item (machine_after r (number - 1)) c.args.unit c.args.item
    = c.as_bytes.ensures ∙ c.in_ok-before.ensures ∙ ap (λ (m : Machine). whole_item m c.args.unit c.args.item) first
    in c.ne.ensures
    ∙ ap (λ (t : List ℕ). not (pointwise nat_eq t c.as_bytes-2.result.now)) before
    ∙ ap (λ (t : List ℕ). not (pointwise nat_eq (whole_item (machine_after r (number - 1)) c.args.unit c.args.item) t)) after
