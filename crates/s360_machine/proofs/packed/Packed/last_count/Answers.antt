use Rattle.std.proofs.Common.{◌≡◌, ◌-◌, ◌∙◌, [], List, sym, ap, subst, arith, length, map, append-nil, slice_get, IfSome}
use Rattle.std.proofs.lemmas.List.{length-map}
use Rattle.s360_store.specs.declared.place.Cell.{Cell}
use Rattle.s360_machine.specs.declared.row.PackedRow.{PackedRow}
use Rattle.s360_machine.specs.Change.{places_of_change}
use Rattle.s360_machine.specs.Changes.{change_of_core}
use Rattle.s360_machine.specs.Packed.{Lists, lists, newest}
use Rattle.s360_machine.specs.Rows.{HasNoMore, bytes_of_row, cells_of_row}
use Rattle.s360_machine.proofs.PackedLemmas.{LastIs, last-is, length-changes, of-last, some-rows}
use Rattle.s360_machine.proofs.packed.Packed.last_count.Goals as goal

pub index-row-requires : goal.index-row-requires
index-row-requires c = omega (arith, c.as_slice-number.ensures.len, some-rows c.self.inside.rows.items c.as_slice-number.result.now (lists c.self.inside.items.items c.self.inside.bytes.items c.self.inside.beside.items) c.args.self.now c.self.view_is c.requires.some c.as_slice-number.ensures.value)

pub returns-then-is_within : goal.returns-then-is_within
returns-then-is_within c =
    let rows : List PackedRow = c.self.inside.rows.items
    in let ls : Lists = lists c.self.inside.items.items c.self.inside.bytes.items c.self.inside.beside.items
    in let r : PackedRow = c.index-row.result.now
    in let within : HasNoMore r = c.is_within.ensures.within c.if-is_within.true
    in let here : LastIs rows ls r (length c.as_slice-number.result.now)
    = last-is rows c.as_slice-number.result.now ls c.args.self.now r c.self.view_is c.self.invariant.0 c.requires.some c.as_slice-number.ensures.value c.index-row.ensures within
    in let cells : List Cell = cells_of_row r [] (newest (bytes_of_row r) ls.bytes)
    in of-last rows ls c.args.self.now (λ x. c.len.result ≡ length (places_of_change x)) (change_of_core cells) c.self.view_is here.there.change
    (c.len.ensures.len [] (newest (bytes_of_row r) ls.bytes) here.there.over ∙ sym (ap length (append-nil (map (λ (k : Cell). k.place) cells)) ∙ length-map cells (λ (k : Cell). k.place)))

pub count-requires-clause-inside : goal.count-requires-clause-inside
count-requires-clause-inside c =
    omega (arith, ap length c.as_slice-number.ensures.value, ap length c.self.view_is, length-changes c.self.inside.rows.items (lists c.self.inside.items.items c.self.inside.bytes.items c.self.inside.beside.items))

pub returns-else-is_within : goal.returns-else-is_within
returns-else-is_within c =
    let number : length c.as_slice-number.result.now ≡ length c.args.self.now
    = omega (arith, ap length c.as_slice-number.ensures.value, ap length c.self.view_is, length-changes c.self.inside.rows.items (lists c.self.inside.items.items c.self.inside.bytes.items c.self.inside.beside.items))
    in subst (λ n. IfSome (slice_get c.args.self.now (n - 1)) (λ x. c.count.result ≡ length (places_of_change x))) number c.count.ensures
