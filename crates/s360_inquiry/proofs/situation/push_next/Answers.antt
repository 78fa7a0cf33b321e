use Rattle.s360_language.proofs.ShownLemmas.{pushed}
use Rattle.s360_inquiry.proofs.InquiryLemmas.{pushed-thrice}
use Rattle.s360_inquiry.proofs.situation.push_next.Goals as goal

pub returns : goal.returns
returns c =
    pushed c.args.text.now _ _ _ _
    (pushed c.args.text.now _ _ _ _ (pushed-thrice c.args.text.now _ _ _ _ _ _ c.in_ok-push_shown.ensures c.in_ok-push_cpu.ensures c.in_ok-push_text.ensures) c.in_ok-push_shown-2.ensures)
    c.in_ok-push_pending.ensures
