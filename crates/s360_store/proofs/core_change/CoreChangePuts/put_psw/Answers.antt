use Rattle.s360_store.proofs.CoreChangeLemmas.{psw-made}
use Rattle.s360_store.proofs.core_change.CoreChangePuts.put_psw.Goals as goal

pub returns-clause-made : goal.returns-clause-made
returns-clause-made c = rw (← c.self.view_is) (psw-made c.args.core.now (record { psw = c.self.inside.psw; cells = c.self.inside.cells }) _ c.args.psw (rw (← c.self.view_is) at c.requires.may) c.other_psw-self-inside.ensures.other)
