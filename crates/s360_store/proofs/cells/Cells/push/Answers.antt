use Rattle.std.proofs.Common.{◌≡◌, ◌∙◌, ◌∷◌, [], ◌++◌, ap, length, arith, length-append}
use Rattle.s360_store.specs.declared.items.Item.TheVariants.{Single}
use Rattle.s360_store.specs.Items.{cells_of_items}
use Rattle.s360_store.proofs.ItemLemmas.{AreItems-append, bytes_of_items-append, cells_of_items-single}
use Rattle.s360_store.proofs.cells.Cells.push.Goals as goal
use Rattle.s360_store.proofs.cells.Cells.push.Goals.{in_default-via-in-Byte+else-cell-lt256, in_default-via-in_default}

stored : (c : goal.After-self-1) → c.push_reserved.new.self.items ≡ c.self.inside.items.items ++ Single c.args.cell ∷ []
stored c = c.push_reserved.ensures.items ∙ ap (λ is. is ++ Single c.args.cell ∷ []) c.in_ok-reserve-in_default.ensures.items

pub invariant_of-self-in_default : goal.invariant_of-self-in_default
invariant_of-self-in_default c =
    let is = c.self.inside.items.items
    in let bs = c.self.inside.bytes.items
    in let more : cells_of_items (is ++ Single c.args.cell ∷ []) bs ≡ cells_of_items is bs ++ c.args.cell ∷ [] = cells_of_items-single is bs c.args.cell
    in let room = rw (← c.self.view_is) at c.requires.room
    in rw (stored c) (record {
      whole = AreItems-append is (Single c.args.cell ∷ []) c.self.invariant.whole (
        λ a e. elim c.in_default.branch [
          | in_default-via-in-Byte+else-cell-lt256 w ↦ omega (arith, w.if-cell-lt256.false)
          | in_default-via-in_default w ↦ absurd (w.in_default.not-Byte a e)
        ],
        tt,
      );
      all = omega (arith, bytes_of_items-append is (Single c.args.cell ∷ []), c.self.invariant.all);
      counted = omega (arith, c.self.invariant.counted, ap length more, length-append (cells_of_items is bs) (c.args.cell ∷ []));
      few = omega (arith, room, c.self.invariant.counted);
    })

pub returns-in_ok-reserve-in_default-clause-ok : goal.returns-in_ok-reserve-in_default-clause-ok
returns-in_ok-reserve-in_default-clause-ok c =
    rw (← c.self.view_is, stored c) (cells_of_items-single c.self.inside.items.items c.self.inside.bytes.items c.args.cell)
