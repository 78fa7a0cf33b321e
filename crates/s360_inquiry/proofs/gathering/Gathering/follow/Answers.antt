use Rattle.std.proofs.Common.{◌≡◌, ◌∙◌, subst, sym}
use Rattle.s360_journal.specs.Recorded.{Recorded, with_standing}
use Rattle.s360_inquiry.specs.declared.gathering.Gathering.{Gathering}
use Rattle.s360_inquiry.specs.Gatherings.{IsGathering}
use Rattle.s360_inquiry.proofs.GatheringLemmas.{making-more, requested-now}
use Rattle.s360_inquiry.proofs.gathering.Gathering.follow.Goals.{then-is_followed+in_ok-seek, else-is_followed}
use Rattle.s360_inquiry.proofs.gathering.Gathering.follow.Goals as goal

pub loop-place-preserved : goal.loop-place-preserved
loop-place-preserved c =
    let r : Recorded = c.args.recording.now
    in let same : c.making_of.new.recording ≡ r = c.in_ok-making.ensures.state ∙ sym c.requires.before
    in elim c.if-is_followed.branch [
      | then-is_followed+in_ok-seek w ↦ λ was.
          subst (λ (g : Gathering). IsGathering (with_standing r 0) r.standing g) (sym w.self-is)
          (w.in_ok-seek.ensures (with_standing r 0) r.standing (c.loop-place.invariant was)
          (requested-now r c.making_of.new.recording _ _ same w.standing.ensures.standing (sym c.is_followed.ensures ∙ w.if-is_followed.true)))
      | else-is_followed w ↦ λ was.
          subst (λ (g : Gathering). IsGathering (with_standing r 0) r.standing g) (sym w.self-is) (c.loop-place.invariant was)
    ]

pub returns-clause-gathered : goal.returns-clause-gathered
returns-clause-gathered c = λ was.
    let r : Recorded = c.args.recording.now
    in making-more (with_standing r 0) r.standing c.loop-place.self _ c.in_ok-making.making c.in_ok-push.ensures.items
    (c.loop-place.invariant was) c.in_ok-making.ensures.making
