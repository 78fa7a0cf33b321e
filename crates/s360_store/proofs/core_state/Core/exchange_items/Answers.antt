use Rattle.s360_model.specs.Core.{Core}
use Rattle.s360_store.specs.Items.{cells_of_items, core_of}
use Rattle.s360_store.proofs.ItemExchangeLemmas.{registers-after}
use Rattle.s360_store.proofs.core_state.Core.exchange_items.Goals as goal

pub invariant_of-self : goal.invariant_of-self
invariant_of-self c =
    let before : Core = core_of c.self.inside.psw c.self.inside.registers c.self.inside.storage
    in registers-after before (core_of c.exchange_items.new.psw c.exchange_items.new.registers c.exchange_items.new.storage) (cells_of_items c.args.items.now c.args.bytes.now) 16 c.exchange_items.ensures.core c.self.told
