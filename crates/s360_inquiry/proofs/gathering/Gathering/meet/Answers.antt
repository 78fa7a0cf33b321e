use Rattle.std.proofs.Common.{◌∙◌, refl, subst, sym}
use Rattle.s360_journal.specs.Recorded.{Recorded, with_standing}
use Rattle.s360_inquiry.specs.declared.gathering.Gathering.{Gathering}
use Rattle.s360_inquiry.specs.Gatherings.{IsGathering}
use Rattle.s360_inquiry.proofs.GatheringLemmas.{meets-none, meets-some}
use Rattle.s360_inquiry.proofs.gathering.Gathering.meet.Goals.{in-Event+in_ok-nodes_of+else-loop-node-test, in_default}
use Rattle.s360_inquiry.proofs.gathering.Gathering.meet.Goals as goal

pub returns-then-not-is_wanted-clause-gathered : goal.returns-then-not-is_wanted-clause-gathered
returns-then-not-is_wanted-clause-gathered c =
    meets-none c.args.recording.now c.args.self.now c.as_slice.result.now c.args.number (c.as_slice.ensures.value ∙ c.in_ok-stored.ensures)
    c.requires.number (sym c.is_wanted.ensures ∙ c.if-not-is_wanted.true)

pub loop-node-init : goal.loop-node-init
loop-node-init c = record {
  gathered = meets-some c.args.recording.now c.args.self.now c.take_stored.new.self c.as_slice-2.result.now c.args.number c.args.kind c.of_event-origin.result
      (c.as_slice-2.ensures.value ∙ c.in_ok-stored.ensures) c.requires.number c.requires.kind c.of_event-origin.ensures c.in_ok-taken.ensures;
  same = refl;
}

pub returns-clause-gathered : goal.returns-clause-gathered
returns-clause-gathered c =
    let r : Recorded = c.args.recording.now
    in elim c.match-origin.branch [
      | in-Event+in_ok-nodes_of+else-loop-node-test w ↦ λ was.
          subst (λ (g : Gathering). IsGathering (with_standing r 0) r.standing g) (sym w.self-is) (w.loop-node.invariant.gathered was)
      | in_default w ↦ λ was.
          subst (λ (g : Gathering). IsGathering (with_standing r 0) r.standing g) (sym w.self-is)
          (meets-some r c.args.self.now c.take_stored.new.self c.as_slice-2.result.now c.args.number c.args.kind c.of_event-origin.result
          (c.as_slice-2.ensures.value ∙ c.in_ok-stored.ensures) c.requires.number c.requires.kind c.of_event-origin.ensures c.in_ok-taken.ensures was)
    ]
