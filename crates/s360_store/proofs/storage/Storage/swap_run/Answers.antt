use Rattle.std.proofs.Common.{arith, rules}
use Rattle.std.proofs.lemmas.Grind.{common_steps}
use Rattle.s360_store.proofs.RunLemmas.{with_run-back}
use Rattle.s360_store.proofs.storage.Storage.swap_run.Goals as goal

pub returns-clause-restores_storage : goal.returns-clause-restores_storage
returns-clause-restores_storage c = with_run-back _ c.args.self.now.bytes c.args.at c.args.bytes.now _ c.requires.inside (grind (arith, common_steps)) (search rules)

pub returns-clause-fit : goal.returns-clause-fit
returns-clause-fit c = λ i l. omega (arith, c.type_inv.bytes i)
