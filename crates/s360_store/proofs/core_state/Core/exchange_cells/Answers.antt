use Rattle.s360_model.specs.Core.{Core}
use Rattle.s360_store.specs.Items.{core_of}
use Rattle.s360_store.proofs.ExchangeLemmas.{AllFit-any}
use Rattle.s360_store.proofs.ItemExchangeLemmas.{registers-after}
use Rattle.s360_store.proofs.core_state.Core.exchange_cells.Goals as goal

pub returns-clause-values : goal.returns-clause-values
returns-clause-values c = AllFit-any _ _ c.exchange.ensures.fit

pub invariant_of-self : goal.invariant_of-self
invariant_of-self c =
    let before : Core = core_of c.self.inside.psw c.self.inside.registers c.self.inside.storage
    in registers-after before (core_of c.exchange.new.psw c.exchange.new.registers c.exchange.new.storage) c.args.cells.now 16 c.exchange.ensures.core c.self.told
