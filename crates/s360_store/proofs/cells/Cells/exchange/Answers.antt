use Rattle.std.proofs.Common.{◌≡◌, ◌∙◌, sym, ap, length}
use Rattle.std.specs.List.{refill}
use Rattle.s360_store.specs.Items.{cells_of_items}
use Rattle.s360_store.proofs.ItemLemmas.{refill-same}
use Rattle.s360_store.proofs.ItemExchangeLemmas.{length-cells_after_exchange}
use Rattle.s360_store.proofs.cells.Cells.exchange.Goals as goal

items : (c : goal.After-self-2-1) → refill c.self.inside.items.len c.self.inside.items.items c.exchange_items.new.items ≡ c.exchange_items.new.items
items c = refill-same c.self.inside.items.len c.self.inside.items.items c.exchange_items.new.items (c.exchange_items.auto.items ∙ c.as_mut_slice.ensures.len)

bytes : (c : goal.After-self-2-1) → refill c.self.inside.bytes.len c.self.inside.bytes.items c.exchange_items.new.bytes ≡ c.exchange_items.new.bytes
bytes c = refill-same c.self.inside.bytes.len c.self.inside.bytes.items c.exchange_items.new.bytes (c.exchange_items.auto.bytes ∙ c.as_mut_slice-2.ensures.len)

pub invariant_of-self : goal.invariant_of-self
invariant_of-self c =
    let same : length (cells_of_items c.exchange_items.new.items c.exchange_items.new.bytes) ≡ length (cells_of_items c.self.inside.items.items c.self.inside.bytes.items)
    = rw (c.as_mut_slice.ensures.value, c.as_mut_slice-2.ensures.value) at (ap length c.exchange_items.ensures.cells ∙ length-cells_after_exchange _ _)
    in rw (items c, bytes c) (record {
      whole = c.exchange_items.ensures.items;
      all = c.exchange_items.ensures.all;
      counted = c.self.invariant.counted ∙ sym same;
      few = c.self.invariant.few;
    })
