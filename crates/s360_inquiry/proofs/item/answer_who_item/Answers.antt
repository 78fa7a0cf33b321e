use Rattle.std.proofs.Common.{◌≡◌, ◌∙◌, Option, Some, ap, sym, ℕ}
use Rattle.s360_journal.specs.Recorded.{Recorded, with_standing}
use Rattle.s360_inquiry.specs.Changes.{just_before, stands_after_who}
use Rattle.s360_inquiry.specs.ItemChanges.{last_change_of_item}
use Rattle.s360_inquiry.proofs.InquiryLemmas.{if_ok}
use Rattle.s360_inquiry.proofs.ItemLemmas.{item-within}
use Rattle.s360_inquiry.proofs.item.answer_who_item.Goals as goal

pub returns-in-Some-clause-state : goal.returns-in-Some-clause-state
returns-in-Some-clause-state c =
    let r : Recorded = c.args.recording.now
    in let last : last_change_of_item r c.args.unit c.args.item ≡ Some c.in-Some.number = sym c.in_ok-number.ensures.number ∙ c.in-Some.is
    in if_ok c.tell_change.result c.tell_change.ensures.state
    (λ text told.
    told
    ∙ ap (λ (x : Recorded). just_before x c.in-Some.number) c.in_ok-number.ensures.state
    ∙ ap (λ (n : ℕ). with_standing r n) (item-within r c.args.unit c.args.item c.in-Some.number last)
    ∙ ap (λ (o : Option ℕ). with_standing r (stands_after_who r o)) (sym last))
