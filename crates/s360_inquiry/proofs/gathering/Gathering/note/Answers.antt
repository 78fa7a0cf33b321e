use Rattle.s360_inquiry.proofs.GatheringLemmas.{store-more}
use Rattle.s360_inquiry.proofs.gathering.Gathering.note.Goals as goal

pub returns : goal.returns
returns c = λ r n was is. store-more r n c.args.self.now _ _ c.in_ok-push.ensures.items was is
