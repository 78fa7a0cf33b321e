use Rattle.std.proofs.Common.{◌≡◌, ◌-◌, ◌∙◌, List, sym, ap, subst, arith, length, take, reverse, length-append, option_to_list}
use Rattle.s360_machine.specs.declared.row.PackedRow.{PackedRow}
use Rattle.s360_machine.specs.Change.{Change}
use Rattle.s360_machine.specs.Packed.{ArePacked, Lists, changes_of_rows, lists, older}
use Rattle.s360_machine.specs.Rows.{HasNoMore, bytes_of_row}
use Rattle.s360_machine.proofs.PackedLemmas.{Dropped, LastIs, dropped-last, last-is, length-changes, some-rows}
use Rattle.s360_machine.proofs.packed.Packed.drop_last.Goals as goal
use Rattle.s360_machine.proofs.packed.Packed.drop_last.Goals.{After-pop}

pub index-requires : goal.index-requires
index-requires c = omega (arith, c.as_slice-number.ensures.len, some-rows c.self.inside.rows.items c.as_slice-number.result.now (lists c.self.inside.items.items c.self.inside.bytes.items c.self.inside.beside.items) c.args.self.now c.self.view_is c.requires c.as_slice-number.ensures.value)

pub overflow_sub-start : goal.overflow_sub-start
overflow_sub-start c =
    let rows : List PackedRow = c.self.inside.rows.items
    in let ls : Lists = lists c.self.inside.items.items c.self.inside.bytes.items c.self.inside.beside.items
    in let r : PackedRow = c.index.result.now
    in let within : HasNoMore r = c.is_within.ensures.within c.if-is_within.true
    in let here : LastIs rows ls r (length c.as_slice-number.result.now)
    = last-is rows c.as_slice-number.result.now ls c.args.self.now r c.self.view_is c.self.invariant.0 c.requires c.as_slice-number.ensures.value c.index.ensures within
    in omega (arith, here.there.has, c.bytes.ensures, ap length c.as_slice.ensures.value)

-- the lists afterwards
dropped : (c : After-pop) → ArePacked (reverse c.pop.new.self.items) (lists c.self.inside.items.items c.truncate.new.self.items c.self.inside.beside.items)
    × (changes_of_rows c.pop.new.self.items (lists c.self.inside.items.items c.truncate.new.self.items c.self.inside.beside.items) ≡ take (length c.args.self.now - 1) c.args.self.now)
dropped c =
    let rows : List PackedRow = c.self.inside.rows.items
    in let ls : Lists = lists c.self.inside.items.items c.self.inside.bytes.items c.self.inside.beside.items
    in let r : PackedRow = c.index.result.now
    in let within : HasNoMore r = c.is_within.ensures.within c.if-is_within.true
    in let here : LastIs rows ls r (length c.as_slice-number.result.now)
    = last-is rows c.as_slice-number.result.now ls c.args.self.now r c.self.view_is c.self.invariant.0 c.requires c.as_slice-number.ensures.value c.index.ensures within
    in let left : Dropped rows ls r = dropped-last rows ls r c.self.invariant.0 here.some here.is within
    in let kept : c.pop.new.self.items ≡ take (length rows - 1) rows = c.pop.ensures.rest ∙ ap (λ n. take (n - 1) rows) (sym c.as_slice-number.ensures.len ∙ here.count)
    in let fewer : c.truncate.new.self.items ≡ older (bytes_of_row r) ls.bytes
    = c.truncate.ensures.items ∙ ap (λ n. take n ls.bytes) (omega (arith, c.bytes.ensures, ap length c.as_slice.ensures.value))
    in (
      subst (λ (l : List PackedRow). ArePacked (reverse l) (lists c.self.inside.items.items c.truncate.new.self.items c.self.inside.beside.items)) (sym kept)
          (subst (λ bs. ArePacked (reverse (take (length rows - 1) rows)) (lists c.self.inside.items.items bs c.self.inside.beside.items)) (sym fewer) left.packed),
      ap (λ (l : List PackedRow). changes_of_rows l (lists c.self.inside.items.items c.truncate.new.self.items c.self.inside.beside.items)) kept
          ∙ ap (λ bs. changes_of_rows (take (length rows - 1) rows) (lists c.self.inside.items.items bs c.self.inside.beside.items)) fewer
          ∙ left.changes ∙ ap (λ n. take (n - 1) (changes_of_rows rows ls)) (sym (length-changes rows ls)) ∙ ap (λ (xs : List Change). take (length xs - 1) xs) c.self.view_is,
    )

pub invariant_of-self : goal.invariant_of-self
invariant_of-self c = ((dropped c).0, omega (arith, c.self.invariant.1, ap length c.pop.ensures.items, length-append c.pop.new.self.items (option_to_list c.pop.result)))

pub returns-then-is_within : goal.returns-then-is_within
returns-then-is_within c = (dropped c).1

pub keep-requires : goal.keep-requires
keep-requires c =
    omega (arith, ap length c.as_slice-number.ensures.value, ap length c.self.view_is, length-changes c.self.inside.rows.items (lists c.self.inside.items.items c.self.inside.bytes.items c.self.inside.beside.items))

pub returns-else-is_within : goal.returns-else-is_within
returns-else-is_within c =
    let number : length c.as_slice-number.result.now ≡ length c.args.self.now
    = omega (arith, ap length c.as_slice-number.ensures.value, ap length c.self.view_is, length-changes c.self.inside.rows.items (lists c.self.inside.items.items c.self.inside.bytes.items c.self.inside.beside.items))
    in c.keep.ensures ∙ ap (λ n. take (n - 1) c.args.self.now) number
