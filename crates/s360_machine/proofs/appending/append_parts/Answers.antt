use Rattle.std.proofs.Common.{◌≡◌, ◌++◌, ◌∙◌, ℕ, List, [], ap, append-nil, rules, sym}
use Rattle.std.proofs.lemmas.List.{nil_from_length}
use Rattle.s360_store.specs.CoreChanges.{cells_of_change}
use Rattle.s360_machine.specs.Packed.{lists}
use Rattle.s360_machine.proofs.PackedLemmas.{appended-row}
use Rattle.s360_machine.proofs.appending.append_parts.Goals as goal

pub returns-then-is_empty-2-clause-ok : goal.returns-then-is_empty-2-clause-ok
returns-then-is_empty-2-clause-ok c =
    let bytes : List ℕ = c.args.bytes.now.items
    in let none : c.in-Some.run'.now ≡ [] = nil_from_length c.in-Some.run'.now (search (c.if-is_empty-2.ensures, rules))
    in appended-row (lists c.args.items.now.items bytes c.args.list.now.items) bytes (cells_of_change c.args.core.now) c.args.beside.now c.in-Some.row c.in-Some.run'.now
    c.in-Some.ensures (c.is_empty.ensures c.if-is_empty.true) (sym (ap (λ bs. bytes ++ bs) none ∙ append-nil bytes))

pub returns-in-Some-clause-ok : goal.returns-in-Some-clause-ok
returns-in-Some-clause-ok c =
    appended-row (lists c.args.items.now.items c.args.bytes.now.items c.args.list.now.items) c.append_bytes.new.list.items (cells_of_change c.args.core.now) c.args.beside.now c.in-Some.row c.in-Some.run'.now
    c.in-Some.ensures (c.is_empty.ensures c.if-is_empty.true) c.in_ok-append_bytes.ensures.ok
