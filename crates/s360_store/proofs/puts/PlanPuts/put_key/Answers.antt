use Rattle.s360_store.proofs.PutLemmas.{IsPlanOf-puts}
use Rattle.s360_store.proofs.puts.PlanPuts.put_key.Goals as goal

pub returns-clause-may : goal.returns-clause-may
returns-clause-may c = (IsPlanOf-puts c.args.arg2.now _ _ _ _ _ c.in_ok-put_key.ensures.ok c.requires.inside c.requires.may).cells
