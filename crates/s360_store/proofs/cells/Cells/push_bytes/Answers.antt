use Rattle.std.proofs.Common.{◌≡◌, ◌++◌, ◌≤◌, ap, length, refl, ◌∙◌, arith, length-append}
use Rattle.s360_store.specs.Cells.{byte_cells}
use Rattle.s360_store.specs.Items.{bytes_of_items, cells_of_items}
use Rattle.s360_store.proofs.ByteCellLemmas.{length-byte_cells}
use Rattle.s360_store.proofs.ItemLemmas.{bytes_of_items-few}
use Rattle.s360_store.proofs.cells.Cells.push_bytes.Goals as goal

pub push_run-requires-clause-few : goal.push_run-requires-clause-few
push_run-requires-clause-few c =
    let is = c.self.inside.items.items
    in let bs = c.self.inside.bytes.items
    in let few : bytes_of_items is ≤ length (cells_of_items is bs) = bytes_of_items-few is bs c.self.invariant.all
    in let room = rw (← c.self.view_is) at c.requires.room
    in omega (arith, few, room)

more : (c : goal.After-self-1) → cells_of_items c.push_run.new.items.items (c.self.inside.bytes.items ++ c.args.bytes.now) ≡ cells_of_items c.self.inside.items.items c.self.inside.bytes.items ++ byte_cells c.args.address c.args.bytes.now
more c = c.in_ok-push_run.ensures.ok.cells c.self.inside.bytes.items c.args.bytes.now c.self.invariant.all refl

stored : (c : goal.After-self-1) → c.append_bytes.new.list.items ≡ c.self.inside.bytes.items ++ c.args.bytes.now
stored c = c.in_ok-append_bytes.ensures.ok ∙ ap (λ xs. xs ++ c.args.bytes.now) c.in_ok-reserve.ensures.items

pub invariant_of-self-2 : goal.invariant_of-self-2
invariant_of-self-2 c =
    let is = c.self.inside.items.items
    in let bs = c.self.inside.bytes.items
    in let room = rw (← c.self.view_is) at c.requires.room
    in rw (stored c) (record {
      whole = c.in_ok-push_run.ensures.ok.whole;
      all = omega (arith, c.in_ok-push_run.ensures.ok.bytes, c.self.invariant.all, length-append bs c.args.bytes.now);
      counted = omega (arith, c.self.invariant.counted, ap length (more c), length-append (cells_of_items is bs) (byte_cells c.args.address c.args.bytes.now), length-byte_cells c.args.address c.args.bytes.now);
      few = omega (arith, room, c.self.invariant.counted);
    })

pub returns-clause-ok : goal.returns-clause-ok
returns-clause-ok c = rw (← c.self.view_is, stored c) (more c)
