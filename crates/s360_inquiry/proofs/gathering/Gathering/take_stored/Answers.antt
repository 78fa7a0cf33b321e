use Rattle.std.proofs.Common.{◌-◌, ◌∙◌, arith, subst, sym}
use Rattle.s360_inquiry.specs.declared.gathering.Gathering.{Gathering}
use Rattle.s360_inquiry.specs.Gatherings.{IsGathering}
use Rattle.s360_inquiry.proofs.GatheringLemmas.{found-there, left-there, none-requested}
use Rattle.s360_inquiry.proofs.gathering.Gathering.take_stored.Goals.{then-is_stored+in_ok-note+in_ok-push, else-is_stored+in_ok-seek}
use Rattle.s360_inquiry.proofs.gathering.Gathering.take_stored.Goals as goal

pub loop-request-init : goal.loop-request-init
loop-request-init c = λ r n of was. none-requested r n c.args.self.now _ _ (cc) was

pub loop-request-preserved : goal.loop-request-preserved
loop-request-preserved c = elim c.if-is_stored.branch [
  | then-is_stored+in_ok-note+in_ok-push w ↦ λ r n of was.
      subst (λ (g : Gathering). IsGathering r (n - 1) g) (sym w.self-is)
      (w.in_ok-note.ensures r (n - 1) (c.loop-request.invariant r n of was)
      (found-there r n c.args.self.now c.deref-request-items.result.now c.loop-request.request-index c.args.stored.now c.args.origin
      (omega arith) (cc) (sym c.is_stored.ensures ∙ w.if-is_stored.true) of was))
  | else-is_stored+in_ok-seek w ↦ λ r n of was.
      subst (λ (g : Gathering). IsGathering r (n - 1) g) (sym w.self-is)
      (w.in_ok-seek.ensures r (n - 1) (c.loop-request.invariant r n of was)
      (left-there r n c.args.self.now c.deref-request-items.result.now c.loop-request.request-index c.args.stored.now c.args.origin
      (omega arith) (cc) (sym c.is_stored.ensures ∙ w.if-is_stored.false) of was))
]
