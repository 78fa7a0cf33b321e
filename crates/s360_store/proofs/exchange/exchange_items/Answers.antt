use Rattle.std.proofs.Common.{◌≡◌, ◌+◌, ◌-◌, arith}
use Rattle.s360_store.specs.declared.place.Place.TheVariants.{Psw}
use Rattle.s360_store.specs.declared.items.Item.{Item}
use Rattle.s360_store.specs.declared.items.Item.TheVariants.{Single}
use Rattle.s360_store.proofs.ItemExchangeLemmas.{exchanging-inside, exchanging-single, exchanging-swapped}
use Rattle.s360_store.proofs.exchange.exchange_items.Goals as goal
use Rattle.s360_store.proofs.exchange.exchange_items.Goals.{in-Single, in-Run}

abbrev none : Item
none = Single (record { place = Psw; value = 0 })

pub swap_run-requires : goal.swap_run-requires
swap_run-requires c =
    let count : c.loop-item.from + c.in-Run.count - c.loop-item.from ≡ c.in-Run.count = omega arith
    in rw count (record { inside = exchanging-inside _ _ _ _ _ _ c.loop-item.item-index c.loop-item.from c.in-Run.address c.in-Run.count none (omega (arith, c.loop-item-test.true, c.loop-item.auto.items)) c.in-Run.is c.loop-item.invariant })

pub loop-item-preserved : goal.loop-item-preserved
loop-item-preserved c = elim c.match-item.branch [
  | in-Single w ↦
      rw (w.psw-is, w.registers-is, w.storage-is, w.bytes-is, w.from-is, w.items-is, w.exchange_cell.ensures.core, w.exchange_cell.ensures.cell)
      (exchanging-single _ _ _ _ _ _ c.loop-item.item-index c.loop-item.from none w.in-Single.cell (omega (arith, c.loop-item-test.true, c.loop-item.auto.items)) w.in-Single.is
      (rw w.exchange_cell.ensures.cell at w.exchange_cell.ensures.fits) c.loop-item.invariant)
  | in-Run w ↦
      let same : c.loop-item.from + w.in-Run.count - c.loop-item.from ≡ w.in-Run.count = omega arith
      in rw (w.psw-is, w.registers-is, w.storage-is, w.bytes-is, w.from-is, w.items-is, same)
      (exchanging-swapped _ c.loop-item.psw c.loop-item.registers c.loop-item.storage w.swap_run.new.self _ c.loop-item.items _ c.loop-item.bytes w.swap_run.new.bytes c.loop-item.item-index c.loop-item.from w.in-Run.address w.in-Run.count none
      (omega (arith, c.loop-item-test.true, c.loop-item.auto.items)) w.in-Run.is (rw same at w.swap_run.ensures.storage) (rw same at w.swap_run.ensures.bytes) w.swap_run.ensures.fit c.loop-item.invariant)
]
