use Rattle.std.proofs.Common.{◌∙◌, ap, sym}
use Rattle.s360_store.specs.CoreChanges.{CoreChange}
use Rattle.s360_store.proofs.CoreChangeLemmas.{psw-none, psw-some}
use Rattle.s360_store.proofs.core_change.CoreChangePuts.psw.Goals as goal

pub returns-in-Some : goal.returns-in-Some
returns-in-Some c = psw-some c.args.core.now c.args.self.now c.in-Some.psw (sym (ap (λ (x : CoreChange). x.psw) c.self.view_is) ∙ c.in-Some.is)

pub returns-in-None : goal.returns-in-None
returns-in-None c = c.psw.ensures.psw ∙ psw-none c.args.core.now c.args.self.now c.requires.may (sym (ap (λ (x : CoreChange). x.psw) c.self.view_is) ∙ c.in-None.is)
