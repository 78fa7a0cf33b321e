use Rattle.s360_store.proofs.PutLemmas.{IsPlanOf-puts}
use Rattle.s360_store.proofs.puts.PlanPuts.put_psw.Goals as goal

pub returns-clause-may : goal.returns-clause-may
returns-clause-may c = (IsPlanOf-puts c.args.arg2.now _ _ _ _ _ c.in_ok-put_psw.ensures.ok tt c.requires.may).cells

pub returns-clause-made : goal.returns-clause-made
returns-clause-made c = (IsPlanOf-puts c.args.arg2.now _ _ _ _ _ c.in_ok-put_psw.ensures.ok tt c.requires.may).makes
