use Rattle.std.proofs.Common.{◌∙◌, sym, get_or}
use Rattle.s360_store.specs.declared.place.Place.TheVariants.{Psw}
use Rattle.s360_store.specs.declared.items.Item.{Item}
use Rattle.s360_store.specs.declared.items.Item.TheVariants.{Single}
use Rattle.s360_store.specs.Items.{cells_of_item}
use Rattle.s360_store.proofs.ItemLemmas.{Rest-more, cells-from, planned_value-append, planned_value-found}
use Rattle.s360_store.proofs.items.value_at.Goals as goal

abbrev none : Item
none = Single (record { place = Psw; value = 0 })

pub returns-in-Some : goal.returns-in-Some
returns-in-Some c =
    let k = c.loop-item.item-index
    in let is = c.args.items.now
    in let rest = c.loop-item.rest.now
    in let same = rw (cells-from is k rest none c.loop-item-test.true) at c.loop-item.invariant.same
    in sym (same ∙ planned_value-found (cells_of_item (get_or is k none) rest) _ c.args.place c.in-Some.value (sym c.value_of.ensures ∙ c.in-Some.is))

pub loop-item-preserved : goal.loop-item-preserved
loop-item-preserved c =
    let k = c.loop-item.item-index
    in let is = c.args.items.now
    in let rest = c.loop-item.rest.now
    in let same = rw (cells-from is k rest none c.loop-item-test.true) at c.loop-item.invariant.same
    in rw (c.split_at.ensures.back, c.bytes.ensures) (record {
      rest = Rest-more is k rest none c.loop-item-test.true c.loop-item.invariant.rest;
      same = same ∙ planned_value-append (cells_of_item (get_or is k none) rest) _ c.args.place (sym c.value_of.ensures ∙ c.in_default.is);
    })
