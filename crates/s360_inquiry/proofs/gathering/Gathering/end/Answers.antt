use Rattle.std.proofs.Common.{arith}
use Rattle.s360_inquiry.proofs.GatheringLemmas.{start-there}
use Rattle.s360_inquiry.proofs.gathering.Gathering.end.Goals as goal

pub loop-request-preserved : goal.loop-request-preserved
loop-request-preserved c = λ r was.
    c.in_ok-note.ensures r 0 (c.loop-request.invariant r was)
    (start-there r c.args.self.now c.deref-request-items.result.now c.loop-request.request-index (omega arith) (cc) was)
