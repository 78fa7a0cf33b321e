use Rattle.std.proofs.Common.{◌≡◌, ◌∙◌, ℕ, List, ap, length, arith}
use Rattle.s360_store.specs.declared.items.Item.{Item}
use Rattle.s360_store.specs.Cells.{byte_cells}
use Rattle.s360_store.specs.Items.{cells_of_items}
use Rattle.s360_store.specs.declared.place.Place.TheVariants.{Psw}
use Rattle.s360_store.proofs.ExchangeLemmas.{AllFit-any, AreCellsOf-kept}
use Rattle.s360_store.proofs.ItemExchangeLemmas.{length-cells_after_exchange}
use Rattle.s360_machine.proofs.row.PackedRow.exchange.Goals as goal

pub exchange_run-requires-clause-can : goal.exchange_run-requires-clause-can
exchange_run-requires-clause-can c =
    let can = rw c.in-Bytes.is at c.requires.can
    in rw c.exchange_psw-in-Bytes.ensures.core (AreCellsOf-kept c.args.core.now (byte_cells c.in-Bytes.address c.args.bytes.now) Psw c.in-Bytes.psw can.3)

pub returns-in-More-clause-over : goal.returns-in-More-clause-over
returns-in-More-clause-over c =
    let over = rw c.in-More.is at c.requires.over
    in let bs : List ℕ = c.exchange_items.new.bytes
    in let is : List Item = c.exchange_items.new.items
    in let many : length (cells_of_items is bs) ≡ length (cells_of_items c.args.items.now c.args.bytes.now)
    = ap length c.exchange_items.ensures.cells ∙ length-cells_after_exchange _ (cells_of_items c.args.items.now c.args.bytes.now)
    in rw c.in-More.is (
      omega (arith, c.exchange_items.auto.items, over.0),
      omega (arith, c.exchange_items.auto.bytes, over.1),
      omega (arith, many, over.2),
      record { whole = c.exchange_items.ensures.items; all = c.exchange_items.ensures.all; fit = AllFit-any _ _ c.exchange_items.ensures.fit; few = omega (arith, many, over.3.few) },
    )
