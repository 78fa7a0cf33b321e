use Rattle.s360_inquiry.proofs.GatheringLemmas.{request-more}
use Rattle.s360_inquiry.proofs.gathering.Gathering.seek.Goals as goal

pub returns : goal.returns
returns c = λ r n was is. request-more r n c.args.self.now _ _ c.args.request c.in_ok-push.ensures.items c.in_ok-insert.ensures.updates was is
