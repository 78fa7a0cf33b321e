use Rattle.std.proofs.Common.{◌+◌, ◌∙◌, ap, arith}
use Rattle.s360_journal.specs.Recorded.{Recorded, with_standing}
use Rattle.s360_inquiry.proofs.InquiryLemmas.{lines-more}
use Rattle.s360_inquiry.proofs.history.answer_history.Goals as goal

pub loop-number-preserved : goal.loop-number-preserved
loop-number-preserved c = record {
  text = lines-more c.back_to-first.new.self c.loop-number.recording c.back_to-first.result c.loop-number.number _ _ (omega arith) c.loop-number.invariant.kept
      c.loop-number.invariant.text c.in_ok-push_run_again.ensures.text;
  kept = c.in_ok-push_run_again.ensures.state ∙ ap (λ (x : Recorded). with_standing x (c.loop-number.number + 1)) c.loop-number.invariant.kept;
}
