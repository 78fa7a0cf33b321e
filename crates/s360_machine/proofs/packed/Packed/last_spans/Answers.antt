use Rattle.std.proofs.Common.{◌≡◌, ◌-◌, [], List, refl, sym, ap, subst, arith, length, slice_get, IfSome}
use Rattle.s360_machine.specs.declared.row.PackedRow.{PackedRow}
use Rattle.s360_machine.specs.ChangeSpans.{AreSpansOf, spans_of, spans_within}
use Rattle.s360_machine.specs.Changes.{change_of_core}
use Rattle.s360_machine.specs.Packed.{Lists, lists, newest}
use Rattle.s360_machine.specs.Rows.{HasNoMore, bytes_of_row, cells_of_row}
use Rattle.s360_machine.proofs.PackedLemmas.{LastIs, last-is, length-changes, of-last, some-rows, within-beside}
use Rattle.s360_machine.proofs.SpanLemmas.{within-own}
use Rattle.s360_machine.proofs.packed.Packed.last_spans.Goals as goal

pub index-row-requires : goal.index-row-requires
index-row-requires c = omega (arith, c.as_slice-number.ensures.len, some-rows c.self.inside.rows.items c.as_slice-number.result.now (lists c.self.inside.items.items c.self.inside.bytes.items c.self.inside.beside.items) c.args.self.now c.self.view_is c.requires.some c.as_slice-number.ensures.value)

pub returns-then-is_within : goal.returns-then-is_within
returns-then-is_within c =
    let rows : List PackedRow = c.self.inside.rows.items
    in let ls : Lists = lists c.self.inside.items.items c.self.inside.bytes.items c.self.inside.beside.items
    in let r : PackedRow = c.index-row.result.now
    in let within : HasNoMore r = c.is_within.ensures.within c.if-is_within.true
    in let here : LastIs rows ls r (length c.as_slice-number.result.now)
    = last-is rows c.as_slice-number.result.now ls c.args.self.now r c.self.view_is c.self.invariant.0 c.requires.some c.as_slice-number.ensures.value c.index-row.ensures within
    in let bs = newest (bytes_of_row r) ls.bytes
    in of-last rows ls c.args.self.now (λ x. AreSpansOf (spans_within c.spans.result) x) (change_of_core (cells_of_row r [] bs)) c.self.view_is here.there.change
    (rw c.spans.ensures (within-own r [] bs [] (change_of_core (cells_of_row r [] bs)) within here.there.over (sym (within-beside r within)) refl))

pub spans-requires-else-is_within-clause-inside : goal.spans-requires-else-is_within-clause-inside
spans-requires-else-is_within-clause-inside c =
    omega (arith, ap length c.as_slice-number.ensures.value, ap length c.self.view_is, length-changes c.self.inside.rows.items (lists c.self.inside.items.items c.self.inside.bytes.items c.self.inside.beside.items))

pub returns-else-is_within : goal.returns-else-is_within
returns-else-is_within c =
    let number : length c.as_slice-number.result.now ≡ length c.args.self.now
    = omega (arith, ap length c.as_slice-number.ensures.value, ap length c.self.view_is, length-changes c.self.inside.rows.items (lists c.self.inside.items.items c.self.inside.bytes.items c.self.inside.beside.items))
    in subst (λ n. IfSome (slice_get c.args.self.now (n - 1)) (λ x. AreSpansOf (spans_of c.spans-else-is_within.result) x)) number c.spans-else-is_within.ensures
