use Rattle.s360_store.specs.Items.{core_of}
use Rattle.s360_store.proofs.ItemExchangeLemmas.{ExchangingItems}
use Rattle.s360_store.proofs.exchange.exchange_items.Given as goal

abbrev pub invariant-loop-item : goal.invariant-loop-item
invariant-loop-item l =
    ExchangingItems (core_of l.initial.psw l.initial.registers l.initial.storage) (core_of l.psw l.registers l.storage) l.initial.items l.items l.initial.bytes l.bytes l.item-index l.from
