use Rattle.std.proofs.Common.{◌++◌, ◌∷◌, ◌∙◌, [], List, ap, length, arith, length-append}
use Rattle.s360_store.specs.CoreChanges.{cells_of_change}
use Rattle.s360_machine.specs.declared.beside.Beside.{Beside}
use Rattle.s360_machine.proofs.PackedLemmas.{appended-full, bytes-few, items-few}
use Rattle.s360_machine.proofs.appending.append_full.Goals as goal

pub overflow_cast-result : goal.overflow_cast-result
overflow_cast-result c =
    let a = c.in_ok-append_to.ensures.ok
    in omega (arith, ap length c.as_slice-3.ensures.value, ap length c.as_slice.ensures.value, ap length a.items_are, length-append c.args.items.now.items a.items, items-few a.items a.bytes a.whole a.all, ap length a.cells_are, a.few)

pub overflow_cast-result-2 : goal.overflow_cast-result-2
overflow_cast-result-2 c =
    let a = c.in_ok-append_to.ensures.ok
    in omega (arith, ap length c.as_slice-4.ensures.value, ap length c.as_slice-2.ensures.value, ap length a.bytes_are, length-append c.args.bytes.now.items a.bytes, bytes-few a.items a.bytes a.all, ap length a.cells_are, a.few)

pub returns-clause-ok : goal.returns-clause-ok
returns-clause-ok c =
    appended-full c.args.items.now.items c.append_to.new.items.items c.args.bytes.now.items c.append_to.new.bytes.items c.args.list.now.items c.push_if_any-beside.new.list.items (cells_of_change c.args.core.now) c.args.beside.now
    c.push_if_any-beside.result _ _ c.len.result c.in_ok-append_to.ensures.ok c.requires
    (λ e. c.push_if_any-beside.ensures.some e ∙ ap (λ (l : List Beside). l ++ c.args.beside.now ∷ []) c.in_ok-reserve.ensures.items)
    (λ e. ((c.push_if_any-beside.ensures.none e).0 ∙ c.in_ok-reserve.ensures.items, (c.push_if_any-beside.ensures.none e).1))
    (omega (arith, ap length c.as_slice-3.ensures.value, ap length c.as_slice.ensures.value))
    (omega (arith, ap length c.as_slice-4.ensures.value, ap length c.as_slice-2.ensures.value)) c.len.ensures.len
