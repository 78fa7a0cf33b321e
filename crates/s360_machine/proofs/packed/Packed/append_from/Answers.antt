use Rattle.std.proofs.Common.{◌≡◌, ◌++◌, ◌∷◌, ◌∙◌, [], List, sym, ap, subst, reverse, length, arith, ◌<◌, length-append}
use Rattle.s360_machine.specs.declared.row.PackedRow.{PackedRow}
use Rattle.s360_machine.specs.Change.{Change}
use Rattle.s360_store.specs.CoreChanges.{cells_of_change}
use Rattle.s360_machine.specs.Changes.{change_of}
use Rattle.s360_machine.specs.Packed.{ArePacked, Lists, changes_of_rows, lists}
use Rattle.s360_machine.proofs.PackedLemmas.{changes-appended, length-changes, packed-appended}
use Rattle.s360_machine.proofs.packed.Packed.append_from.Goals as goal

pub invariant_of-self-2 : goal.invariant_of-self-2
invariant_of-self-2 c =
    let before : Lists = lists c.self.inside.items.items c.self.inside.bytes.items c.self.inside.beside.items
    in let after : Lists = lists c.append_parts.new.items.items c.append_parts.new.bytes.items c.append_parts.new.list.items
    in let more : c.push_reserved.new.self.items ≡ c.self.inside.rows.items ++ c.in_ok-row.row ∷ []
    = c.push_reserved.ensures.items ∙ ap (λ (l : List PackedRow). l ++ c.in_ok-row.row ∷ []) c.in_ok-reserve.ensures.items
    in let room : length c.self.inside.rows.items < 10000000 = rw (← length-changes c.self.inside.rows.items before) (rw (← c.self.view_is) at c.requires)
    in (
      subst (λ (l : List PackedRow). ArePacked (reverse l) after) (sym more)
          (packed-appended c.self.inside.rows.items before after c.in_ok-row.row (change_of (cells_of_change c.changes.inside.core) c.changes.inside.beside) c.self.invariant.0 c.in_ok-row.ensures.ok),
      omega (arith, ap length more, length-append c.self.inside.rows.items (c.in_ok-row.row ∷ []), room, length-changes c.self.inside.rows.items before, c.in_ok-reserve.ensures.items),
    )

pub returns-clause-ok : goal.returns-clause-ok
returns-clause-ok c =
    let before : Lists = lists c.self.inside.items.items c.self.inside.bytes.items c.self.inside.beside.items
    in let after : Lists = lists c.append_parts.new.items.items c.append_parts.new.bytes.items c.append_parts.new.list.items
    in let more : c.push_reserved.new.self.items ≡ c.self.inside.rows.items ++ c.in_ok-row.row ∷ []
    = c.push_reserved.ensures.items ∙ ap (λ (l : List PackedRow). l ++ c.in_ok-row.row ∷ []) c.in_ok-reserve.ensures.items
    in ap (λ (l : List PackedRow). changes_of_rows l after) more
    ∙ changes-appended c.self.inside.rows.items before after c.in_ok-row.row (change_of (cells_of_change c.changes.inside.core) c.changes.inside.beside) c.in_ok-row.ensures.ok
    ∙ ap (λ (xs : List Change). xs ++ change_of (cells_of_change c.changes.inside.core) c.changes.inside.beside ∷ []) c.self.view_is
    ∙ ap (λ (x : Change). c.args.self.now ++ x ∷ []) c.changes.view_is
