use Rattle.std.proofs.lemmas.List.{take_all}
use Rattle.s360_store.specs.declared.place.Place.TheVariants.{Psw}
use Rattle.s360_store.specs.declared.items.Item.{Item}
use Rattle.s360_store.specs.declared.items.Item.TheVariants.{Single}
use Rattle.s360_store.proofs.ItemLemmas.{AllMiss-more}
use Rattle.s360_store.proofs.items.all_miss.Goals as goal

abbrev none : Item
none = Single (record { place = Psw; value = 0 })

pub loop-item-preserved : goal.loop-item-preserved
loop-item-preserved c = AllMiss-more c.args.items.now c.loop-item.item-index c.args.address c.args.count none c.loop-item-test.true c.loop-item.invariant (c.misses.ensures c.if-not-misses.false)

pub returns : goal.returns
returns c = λ t. rw (take_all c.loop-item.item-index c.args.items.now c.loop-item-test.false) at c.loop-item.invariant
