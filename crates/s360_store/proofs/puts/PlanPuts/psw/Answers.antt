use Rattle.std.proofs.Common.{◌∙◌, sym}
use Rattle.s360_store.proofs.PlannedLemmas.{planned_psw-none, planned_psw-some}
use Rattle.s360_store.proofs.puts.PlanPuts.psw.Goals as goal

pub returns-in-Some : goal.returns-in-Some
returns-in-Some c = c.from_u64.ensures ∙ planned_psw-some c.args.core.now c.args.self.now c.in-Some.doubleword c.requires.may (sym c.value.ensures ∙ c.in-Some.is)

pub returns-in-None : goal.returns-in-None
returns-in-None c = c.psw.ensures.psw ∙ planned_psw-none c.args.core.now c.args.self.now c.requires.may (sym c.value.ensures ∙ c.in-None.is)
