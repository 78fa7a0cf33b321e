use Rattle.std.proofs.Common.{◌≡◌, ◌∙◌, Option, Some, ap, sym, ℕ}
use Rattle.s360_journal.specs.Recorded.{with_standing}
use Rattle.s360_inquiry.specs.Changes.{last_change_in, stands_after_who}
use Rattle.s360_inquiry.proofs.InquiryLemmas.{change-within}
use Rattle.s360_inquiry.proofs.change.answer_who.Goals as goal

pub returns-clause-state : goal.returns-clause-state
returns-clause-state c =
    let last : last_change_in c.args.recording.now c.args.place ≡ Some c.in-Some.number = sym c.in-Some.ensures
    in c.in_ok-push_change.ensures.state
    ∙ ap (λ (n : ℕ). with_standing c.args.recording.now n) (change-within c.args.recording.now c.args.place c.in-Some.number last)
    ∙ ap (λ (o : Option ℕ). with_standing c.args.recording.now (stands_after_who c.args.recording.now o)) (sym last)
