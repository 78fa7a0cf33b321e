use Rattle.std.proofs.Common.{arith, refl}
use Rattle.s360_store.specs.declared.items.Item.{Item}
use Rattle.s360_store.specs.declared.items.Item.TheVariants.{Single}
use Rattle.s360_store.specs.declared.place.Place.TheVariants.{Psw}
use Rattle.s360_machine.proofs.StretchLemmas.{items-below, stretching-all, stretching-begun, stretching-more}
use Rattle.s360_machine.proofs.row.stretches_of.Goals as goal

abbrev none : Item
none = Single (record { place = Psw; value = 0 })

pub loop-item-init : goal.loop-item-init
loop-item-init c = stretching-begun c.args.items.now c.args.bytes.now c.requires

pub overflow_add-count : goal.overflow_add-count
overflow_add-count c = omega (arith, c.loop-item.invariant.few, c.loop-item-test.true, items-below c.args.items.now c.args.bytes.now c.requires, c.begun_by-count.ensures.few)

pub loop-item-preserved : goal.loop-item-preserved
loop-item-preserved c =
    stretching-more c.args.items.now c.args.bytes.now c.loop-item.item-index c.loop-item.count c.begun_by-count.result c.loop-item.next c.next_after-next.result none _ c.loop-item-test.true refl
    c.begun_by-count.ensures.begun c.next_after-next.ensures c.loop-item.invariant

pub returns : goal.returns
returns c = stretching-all c.args.items.now c.args.bytes.now c.loop-item.item-index c.loop-item.count c.loop-item.next c.loop-item-test.false c.loop-item.invariant
