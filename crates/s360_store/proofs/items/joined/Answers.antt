use Rattle.std.proofs.Common.{◌≤◌, arith}
use Rattle.s360_store.specs.declared.items.Item.{Item}
use Rattle.s360_store.specs.declared.place.Place.TheVariants.{Psw}
use Rattle.s360_store.specs.declared.items.Item.TheVariants.{Single}
use Rattle.s360_store.specs.Items.{bytes_of_items}
use Rattle.s360_store.proofs.ItemLemmas.{bytes_of_item-few}
use Rattle.s360_store.proofs.items.joined.Goals as goal

abbrev none : Item
none = Single (record { place = Psw; value = 0 })

pub overflow_add-result : goal.overflow_add-result
overflow_add-result c =
    let few : c.in-Run.before ≤ bytes_of_items c.args.items.now = rw c.in-Run.is at (bytes_of_item-few c.args.items.now c.in_ok-last.last none (omega (arith, c.in_ok-last.ensures.0, c.in_ok-last.ensures.1)))
    in omega (arith, few, c.requires.few)
