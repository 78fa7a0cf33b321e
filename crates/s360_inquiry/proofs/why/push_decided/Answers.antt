use Rattle.s360_inquiry.proofs.ChainLemmas.{decided-some}
use Rattle.s360_inquiry.proofs.why.push_decided.Goals as goal

pub returns : goal.returns
returns c = rw (← decided-some c.args.deciders.now _ c.is_empty.ensures c.if-is_empty.false) c.push_full.ensures
