use Rattle.std.proofs.Common.{◌∙◌}
use Rattle.s360_inquiry.proofs.FittingLemmas.{more-none, more-some}
use Rattle.s360_inquiry.proofs.fitting.more_from.Goals.{then-from-items+in_ok-push_counted+in_ok-push_text, else-from-items}
use Rattle.s360_inquiry.proofs.fitting.more_from.Goals as goal

pub returns : goal.returns
returns c = elim c.if-from-items.branch [
  | then-from-items+in_ok-push_counted+in_ok-push_text w ↦
      more-some c.args.items.now c.args.from c.new-text.result _ _ w.if-from-items.true c.new-text.ensures w.in_ok-push_counted.ensures
      (w.text-is ∙ w.in_ok-push_text.ensures)
  | else-from-items w ↦ more-none c.args.items.now c.args.from _ w.if-from-items.false (w.text-is ∙ c.new-text.ensures)
]
