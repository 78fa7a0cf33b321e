use Rattle.std.proofs.Common.{[], ◌∙◌, sym}
use Rattle.s360_saving.specs.Cards.{columns_if_wanted}
use Rattle.s360_saving.proofs.SavingLemmas.{no_item, told-item}
use Rattle.s360_saving.proofs.cards.cards_of.Goals as goal
use Rattle.s360_saving.proofs.cards.cards_of.Goals.{in-Some+in_ok-push_card, in_default}

pub loop-index-preserved : goal.loop-index-preserved
loop-index-preserved c = elim c.match-card.branch [
  | in-Some+in_ok-push_card w ↦ told-item (columns_if_wanted c.args.stacker) c.args.media.now.media c.loop-index.index w.in-Some.card.now [] _ _
      (sym (rw w.in-Some.is at c.card.ensures)) c.loop-index.invariant (w.text-is ∙ w.in_ok-push_card.ensures)
  | in_default w ↦ absurd (no_item c.args.media.now.media c.loop-index.index (rw c.cards-index-end.ensures at c.loop-index-test.true) (rw w.in_default.is at c.card.ensures))
]
