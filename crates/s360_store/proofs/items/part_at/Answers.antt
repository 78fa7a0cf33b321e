use Rattle.std.proofs.Common.{◌≡◌, ◌<◌, ◌≤◌, arith, length, get_or}
use Rattle.s360_store.specs.declared.place.Place.TheVariants.{Psw}
use Rattle.s360_store.specs.declared.items.Item.{Item}
use Rattle.s360_store.specs.declared.items.Item.TheVariants.{Single}
use Rattle.s360_store.specs.Items.{IsItem, bytes_of_item, cells_of_item, cells_of_items, count_of_item}
use Rattle.s360_store.proofs.ItemLemmas.{IsPartAt-found, Rest-item, Rest-more, Sought, Sought-first, Sought-past, cells-from, length-cells_of_item}
use Rattle.s360_store.proofs.items.part_at.Goals as goal

abbrev none : Item
none = Single (record { place = Psw; value = 0 })

pub loop-item-init : goal.loop-item-init
loop-item-init c = record {
  rest = record { items = c.requires.items; all = c.requires.all };
  sought = Sought-first (cells_of_items c.args.items.now c.args.bytes.now) c.args.i c.requires.inside;
}

pub returns-then-left-len : goal.returns-then-left-len
returns-then-left-len c =
    let k = c.loop-item.item-index
    in let is = c.args.items.now
    in let rest = c.loop-item.rest.now
    in let fit : IsItem (get_or is k none) × (bytes_of_item (get_or is k none) ≤ length rest) = Rest-item is k rest none c.loop-item-test.true c.loop-item.invariant.rest
    in let within : c.loop-item.left < length (cells_of_item (get_or is k none) rest)
    = (let count : length (cells_of_item (get_or is k none) rest) ≡ count_of_item (get_or is k none) = length-cells_of_item (get_or is k none) rest fit.1 in omega (arith, count, c.if-left-len.true, c.len.ensures))
    in let sought : Sought (cells_of_items is c.args.bytes.now) c.args.i c.loop-item.left _ = rw (cells-from is k rest none c.loop-item-test.true) at c.loop-item.invariant.sought
    in let found = IsPartAt-found (cells_of_items is c.args.bytes.now) c.args.i c.loop-item.left (cells_of_item (get_or is k none) rest) _ _ within c.part_of.ensures.is sought
    in record { some = found.0; is = found.1; small = c.part_of.ensures.small }

pub loop-item-preserved : goal.loop-item-preserved
loop-item-preserved c =
    let k = c.loop-item.item-index
    in let is = c.args.items.now
    in let rest = c.loop-item.rest.now
    in let fit : IsItem (get_or is k none) × (bytes_of_item (get_or is k none) ≤ length rest) = Rest-item is k rest none c.loop-item-test.true c.loop-item.invariant.rest
    in let count : length (cells_of_item (get_or is k none) rest) ≡ count_of_item (get_or is k none) = length-cells_of_item (get_or is k none) rest fit.1
    in let sought : Sought (cells_of_items is c.args.bytes.now) c.args.i c.loop-item.left _ = rw (cells-from is k rest none c.loop-item-test.true) at c.loop-item.invariant.sought
    in rw (c.split_at.ensures.back, c.bytes.ensures, c.len-left.ensures) (record {
      rest = Rest-more is k rest none c.loop-item-test.true c.loop-item.invariant.rest;
      sought = Sought-past (cells_of_items is c.args.bytes.now) c.args.i c.loop-item.left (count_of_item (get_or is k none)) (cells_of_item (get_or is k none) rest) _ count (omega (arith, c.if-left-len.false, c.len.ensures)) sought;
    })
