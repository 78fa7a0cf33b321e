use Rattle.s360_store.proofs.PutLemmas.{IsPlanOf-puts}
use Rattle.s360_store.proofs.puts.PlanPuts.put_register.Goals as goal

pub returns-clause-may : goal.returns-clause-may
returns-clause-may c = (IsPlanOf-puts c.args.core.now _ _ _ _ _ c.in_ok-put_register.ensures.ok c.register.ensures.inside c.requires.may).cells
