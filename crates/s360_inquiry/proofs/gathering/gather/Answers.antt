use Rattle.std.proofs.Common.{◌≡◌, ◌-◌, ◌∙◌, ℕ, arith, subst}
use Rattle.s360_journal.specs.Recorded.{Recorded, with_standing}
use Rattle.s360_inquiry.specs.Gatherings.{IsGathering}
use Rattle.s360_inquiry.proofs.GatheringLemmas.{back-there, gather-more}
use Rattle.s360_inquiry.proofs.gathering.gather.Goals as goal

pub loop-before-preserved : goal.loop-before-preserved
loop-before-preserved c =
    let r : Recorded = c.args.recording.now
    in let there : c.take_back-kind.new.recording ≡ with_standing r (c.loop-before.before - 1)
    = back-there r c.loop-before.recording _ c.loop-before.before c.loop-before.invariant.kept c.take_back-kind.ensures.state
    in record {
      gathered = gather-more r c.take_back-kind.new.recording c.loop-before.before _ c.loop-before.gathering c.meet.new.self there (omega arith)
          c.in_ok-meet.ensures.gathered c.loop-before.invariant.gathered;
      kept = c.in_ok-meet.ensures.state ∙ there;
      within = omega arith;
    }

pub returns-clause-makings : goal.returns-clause-makings
returns-clause-makings c =
    let r : Recorded = with_standing c.args.recording.now 0
    in let none : c.loop-before.before ≡ 0 = omega arith
    in (c.in_ok-end.ensures r (subst (λ (n : ℕ). IsGathering r n c.loop-before.gathering) none c.loop-before.invariant.gathered)).makings

pub returns-clause-stores : goal.returns-clause-stores
returns-clause-stores c =
    let r : Recorded = with_standing c.args.recording.now 0
    in let none : c.loop-before.before ≡ 0 = omega arith
    in (c.in_ok-end.ensures r (subst (λ (n : ℕ). IsGathering r n c.loop-before.gathering) none c.loop-before.invariant.gathered)).stores
