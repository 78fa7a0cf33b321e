use Rattle.std.proofs.Common.{◌≡◌, ◌-◌, ◌++◌, ◌∙◌, ℕ, [], List, sym, ap, subst, arith, length, take, drop, set, reverse, length-set, slice_get, IfSome}
use Rattle.s360_machine.specs.declared.row.PackedRow.{PackedRow}
use Rattle.s360_machine.specs.Change.{CanSwap, Change, HasRoom, change_after_swap}
use Rattle.s360_machine.specs.Changes.{change_of_core}
use Rattle.s360_machine.specs.Packed.{ArePacked, IsSwapOf, Lists, changes_of_rows, lists, newest, older}
use Rattle.s360_machine.specs.Rows.{HasNoMore, bytes_of_row, cells_of_row}
use Rattle.s360_machine.proofs.PackedLemmas.{LastIs, Swapped, at-last, end_of_all, last-is, length-changes, length-newest, lent-behind, of-last, same-got, some-rows, swap-there, swapped-last, written, written-behind}
use Rattle.s360_machine.proofs.packed.Packed.swap_last.Goals as goal
use Rattle.s360_machine.proofs.packed.Packed.swap_last.Goals.{After-exchange_within}

pub index-requires : goal.index-requires
index-requires c = omega (arith, c.as_slice-number.ensures.len, some-rows c.self.inside.rows.items c.as_slice-number.result.now (lists c.self.inside.items.items c.self.inside.bytes.items c.self.inside.beside.items) c.args.self.now c.self.view_is c.requires.some c.as_slice-number.ensures.value)

pub index_mut-row-requires : goal.index_mut-row-requires
index_mut-row-requires c = omega (arith, c.as_slice-number.ensures.len, some-rows c.self.inside.rows.items c.as_slice-number.result.now (lists c.self.inside.items.items c.self.inside.bytes.items c.self.inside.beside.items) c.args.self.now c.self.view_is c.requires.some c.as_slice-number.ensures.value)

pub overflow_sub-start : goal.overflow_sub-start
overflow_sub-start c =
    let rows : List PackedRow = c.self.inside.rows.items
    in let ls : Lists = lists c.self.inside.items.items c.self.inside.bytes.items c.self.inside.beside.items
    in let r : PackedRow = c.index_mut-row.result.now
    in let within : HasNoMore r
    = subst HasNoMore (same-got rows (length c.as_slice-number.result.now - 1) c.index.result.now r (omega (arith, some-rows rows c.as_slice-number.result.now ls c.args.self.now c.self.view_is c.requires.some c.as_slice-number.ensures.value, ap length c.as_slice-number.ensures.value)) c.index.ensures c.index_mut-row.ensures.value) (c.is_within.ensures.within c.if-is_within.true)
    in let here : LastIs rows ls r (length c.as_slice-number.result.now)
    = last-is rows c.as_slice-number.result.now ls c.args.self.now r c.self.view_is c.self.invariant.0 c.requires.some c.as_slice-number.ensures.value c.index_mut-row.ensures.value within
    in omega (arith, here.there.has, c.bytes.ensures, ap length c.as_slice.ensures.value)

pub exchange_within-requires-clause-over : goal.exchange_within-requires-clause-over
exchange_within-requires-clause-over c =
    let rows : List PackedRow = c.self.inside.rows.items
    in let ls : Lists = lists c.self.inside.items.items c.self.inside.bytes.items c.self.inside.beside.items
    in let r : PackedRow = c.index_mut-row.result.now
    in let within : HasNoMore r
    = subst HasNoMore (same-got rows (length c.as_slice-number.result.now - 1) c.index.result.now r (omega (arith, some-rows rows c.as_slice-number.result.now ls c.args.self.now c.self.view_is c.requires.some c.as_slice-number.ensures.value, ap length c.as_slice-number.ensures.value)) c.index.ensures c.index_mut-row.ensures.value) (c.is_within.ensures.within c.if-is_within.true)
    in let here : LastIs rows ls r (length c.as_slice-number.result.now)
    = last-is rows c.as_slice-number.result.now ls c.args.self.now r c.self.view_is c.self.invariant.0 c.requires.some c.as_slice-number.ensures.value c.index_mut-row.ensures.value within
    in rw (c.bytes.ensures, lent-behind (bytes_of_row r) c.deref_mut.result.now c.as_slice.result.now ls.bytes c.deref_mut.ensures.value c.as_slice.ensures.value) here.there.over

pub exchange_within-requires-clause-can : goal.exchange_within-requires-clause-can
exchange_within-requires-clause-can c =
    let rows : List PackedRow = c.self.inside.rows.items
    in let ls : Lists = lists c.self.inside.items.items c.self.inside.bytes.items c.self.inside.beside.items
    in let r : PackedRow = c.index_mut-row.result.now
    in let within : HasNoMore r
    = subst HasNoMore (same-got rows (length c.as_slice-number.result.now - 1) c.index.result.now r (omega (arith, some-rows rows c.as_slice-number.result.now ls c.args.self.now c.self.view_is c.requires.some c.as_slice-number.ensures.value, ap length c.as_slice-number.ensures.value)) c.index.ensures c.index_mut-row.ensures.value) (c.is_within.ensures.within c.if-is_within.true)
    in let here : LastIs rows ls r (length c.as_slice-number.result.now)
    = last-is rows c.as_slice-number.result.now ls c.args.self.now r c.self.view_is c.self.invariant.0 c.requires.some c.as_slice-number.ensures.value c.index_mut-row.ensures.value within
    in let can : CanSwap c.args.machine.now.whole (change_of_core (cells_of_row r [] (newest (bytes_of_row r) ls.bytes)))
    = at-last rows ls c.args.self.now (λ x. CanSwap c.args.machine.now.whole x) (change_of_core (cells_of_row r [] (newest (bytes_of_row r) ls.bytes))) c.self.view_is here.there.change c.requires.can
    in rw (c.bytes.ensures, lent-behind (bytes_of_row r) c.deref_mut.result.now c.as_slice.result.now ls.bytes c.deref_mut.ensures.value c.as_slice.ensures.value) can

-- the change as it was
before : (c : After-exchange_within) → (LastIs c.self.inside.rows.items (lists c.self.inside.items.items c.self.inside.bytes.items c.self.inside.beside.items) c.index_mut-row.result.now (length c.as_slice-number.result.now))
    × (take (length c.deref_mut.result.now - (length c.as_slice.result.now - c.bytes.result)) (drop (length c.as_slice.result.now - c.bytes.result) c.deref_mut.result.now) ≡ newest (bytes_of_row c.index_mut-row.result.now) c.self.inside.bytes.items)
before c =
    let rows : List PackedRow = c.self.inside.rows.items
    in let ls : Lists = lists c.self.inside.items.items c.self.inside.bytes.items c.self.inside.beside.items
    in let r : PackedRow = c.index_mut-row.result.now
    in let within : HasNoMore r
    = subst HasNoMore (same-got rows (length c.as_slice-number.result.now - 1) c.index.result.now r (omega (arith, some-rows rows c.as_slice-number.result.now ls c.args.self.now c.self.view_is c.requires.some c.as_slice-number.ensures.value, ap length c.as_slice-number.ensures.value)) c.index.ensures c.index_mut-row.ensures.value) (c.is_within.ensures.within c.if-is_within.true)
    in let here : LastIs rows ls r (length c.as_slice-number.result.now)
    = last-is rows c.as_slice-number.result.now ls c.args.self.now r c.self.view_is c.self.invariant.0 c.requires.some c.as_slice-number.ensures.value c.index_mut-row.ensures.value within
    in (here, rw c.bytes.ensures (lent-behind (bytes_of_row r) c.deref_mut.result.now c.as_slice.result.now ls.bytes c.deref_mut.ensures.value c.as_slice.ensures.value))

-- what the bytes become, and the lists
abbrev bytes_now : After-exchange_within → List ℕ
bytes_now c =
    take c.self.inside.bytes.len (written (length c.as_slice.result.now - c.bytes.result) (length c.deref_mut.result.now - (length c.as_slice.result.now - c.bytes.result)) c.deref_mut.result.now c.exchange_within.new.bytes
    ++ drop (length (written (length c.as_slice.result.now - c.bytes.result) (length c.deref_mut.result.now - (length c.as_slice.result.now - c.bytes.result)) c.deref_mut.result.now c.exchange_within.new.bytes)) c.self.inside.bytes.items)

record After (c : After-exchange_within) : Type 0 where
  pub bytes : bytes_now c ≡ older (bytes_of_row c.index_mut-row.result.now) c.self.inside.bytes.items ++ c.exchange_within.new.bytes
  pub number : length c.as_slice-number.result.now ≡ length c.self.inside.rows.items
  pub swapped : Swapped c.self.inside.rows.items (lists c.self.inside.items.items c.self.inside.bytes.items c.self.inside.beside.items)
      (lists c.self.inside.items.items (older (bytes_of_row c.index_mut-row.result.now) c.self.inside.bytes.items ++ c.exchange_within.new.bytes) c.self.inside.beside.items)
      (end_of_all c.self.inside.rows.items (lists c.self.inside.items.items c.self.inside.bytes.items c.self.inside.beside.items)) c.exchange_within.new.row (lists [] c.exchange_within.new.bytes [])

after : (c : After-exchange_within) → After c
after c =
    let rows : List PackedRow = c.self.inside.rows.items
    in let ls : Lists = lists c.self.inside.items.items c.self.inside.bytes.items c.self.inside.beside.items
    in let r : PackedRow = c.index_mut-row.result.now
    in let within : HasNoMore r
    = subst HasNoMore (same-got rows (length c.as_slice-number.result.now - 1) c.index.result.now r (omega (arith, some-rows rows c.as_slice-number.result.now ls c.args.self.now c.self.view_is c.requires.some c.as_slice-number.ensures.value, ap length c.as_slice-number.ensures.value)) c.index.ensures c.index_mut-row.ensures.value) (c.is_within.ensures.within c.if-is_within.true)
    in let here : LastIs rows ls r (length c.as_slice-number.result.now)
    = last-is rows c.as_slice-number.result.now ls c.args.self.now r c.self.view_is c.self.invariant.0 c.requires.some c.as_slice-number.ensures.value c.index_mut-row.ensures.value within
    in let start : length c.as_slice.result.now - c.bytes.result ≡ length ls.bytes - bytes_of_row r = omega (arith, c.bytes.ensures, ap length c.as_slice.ensures.value)
    in let count : length c.exchange_within.new.bytes ≡ bytes_of_row r
    = c.exchange_within.ensures.count ∙ ap length (before c).1 ∙ length-newest (bytes_of_row r) ls.bytes here.there.has
    in record {
      bytes = written-behind c.self.inside.bytes.len (length c.as_slice.result.now - c.bytes.result) c.deref_mut.result.now ls.bytes c.exchange_within.new.bytes
          (sym c.deref_mut.ensures.len ∙ ap length c.deref_mut.ensures.value) c.deref_mut.ensures.value (omega (arith, start)) c.exchange_within.ensures.count
          ∙ ap (λ n. take n ls.bytes ++ c.exchange_within.new.bytes) start;
      number = here.count;
      swapped = swapped-last rows ls r c.exchange_within.new.row c.exchange_within.new.bytes c.self.invariant.0 here.some here.is within c.exchange_within.ensures.same c.exchange_within.ensures.over count;
    }

pub invariant_of-self : goal.invariant_of-self
invariant_of-self c =
    let w = (goal.at.invariant_of-self c).After-exchange_within
    in let done : After w = after w
    in (
      subst (λ k. ArePacked (reverse (set c.self.inside.rows.items (k - 1) c.exchange_within.new.row)) (lists c.self.inside.items.items (bytes_now w) c.self.inside.beside.items)) (sym done.number)
          (subst (λ bs. ArePacked (reverse (set c.self.inside.rows.items (length c.self.inside.rows.items - 1) c.exchange_within.new.row)) (lists c.self.inside.items.items bs c.self.inside.beside.items)) (sym done.bytes) done.swapped.packed),
      omega (arith, c.self.invariant.1, length-set c.self.inside.rows.items (length c.as_slice-number.result.now - 1) c.exchange_within.new.row),
    )

pub returns-then-is_within-clause-machine : goal.returns-then-is_within-clause-machine
returns-then-is_within-clause-machine c =
    let rows : List PackedRow = c.self.inside.rows.items
    in let ls : Lists = lists c.self.inside.items.items c.self.inside.bytes.items c.self.inside.beside.items
    in let r : PackedRow = c.index_mut-row.result.now
    in let x : Change = change_of_core (cells_of_row r [] (newest (bytes_of_row r) ls.bytes))
    in let here = before (goal.at.returns-then-is_within-clause-machine c).After-exchange_within
    in let can : CanSwap c.args.machine.now.whole x = at-last rows ls c.args.self.now (λ y. CanSwap c.args.machine.now.whole y) x c.self.view_is here.0.there.change c.requires.can
    in of-last rows ls c.args.self.now (λ y. IsSwapOf c.args.machine.now.whole y c.exchange_within.new.self.whole) x c.self.view_is here.0.there.change
    (swap-there c.args.machine.now.whole c.exchange_within.new.self.whole x (change_of_core (cells_of_row c.exchange_within.new.row [] c.exchange_within.new.bytes)) can
    (rw here.1 at c.exchange_within.ensures.machine) (rw here.1 at c.exchange_within.ensures.change) c.exchange_within.ensures.fit)

pub returns-then-is_within-clause-changes : goal.returns-then-is_within-clause-changes
returns-then-is_within-clause-changes c =
    let rows : List PackedRow = c.self.inside.rows.items
    in let ls : Lists = lists c.self.inside.items.items c.self.inside.bytes.items c.self.inside.beside.items
    in let r : PackedRow = c.index_mut-row.result.now
    in let s : PackedRow = c.exchange_within.new.row
    in let x : Change = change_of_core (cells_of_row r [] (newest (bytes_of_row r) ls.bytes))
    in let w = (goal.at.returns-then-is_within-clause-changes c).After-exchange_within
    in let here = before w
    in let done : After w = after w
    in of-last rows ls c.args.self.now _ x c.self.view_is here.0.there.change
    (ap (λ k. changes_of_rows (set rows (k - 1) s) (lists c.self.inside.items.items (bytes_now w) c.self.inside.beside.items)) done.number
    ∙ ap (λ bs. changes_of_rows (set rows (length rows - 1) s) (lists c.self.inside.items.items bs c.self.inside.beside.items)) done.bytes
    ∙ done.swapped.changes
    ∙ ap (λ (y : Change). set (changes_of_rows rows ls) (length rows - 1) y) (rw here.1 at c.exchange_within.ensures.change)
    ∙ ap (λ n. set (changes_of_rows rows ls) (n - 1) (change_after_swap c.args.machine.now.whole x)) (sym (length-changes rows ls))
    ∙ ap (λ (xs : List Change). set xs (length xs - 1) (change_after_swap c.args.machine.now.whole x)) c.self.view_is)

-- any other row

pub swap-requires-clause-inside : goal.swap-requires-clause-inside
swap-requires-clause-inside c =
    omega (arith, ap length c.as_slice-number.ensures.value, ap length c.self.view_is, length-changes c.self.inside.rows.items (lists c.self.inside.items.items c.self.inside.bytes.items c.self.inside.beside.items))

pub swap-requires-clause-can : goal.swap-requires-clause-can
swap-requires-clause-can c =
    let number : length c.as_slice-number.result.now ≡ length c.args.self.now
    = omega (arith, ap length c.as_slice-number.ensures.value, ap length c.self.view_is, length-changes c.self.inside.rows.items (lists c.self.inside.items.items c.self.inside.bytes.items c.self.inside.beside.items))
    in subst (λ n. IfSome (slice_get c.args.self.now (n - 1)) (λ x. CanSwap c.args.machine.now.whole x)) (sym number) c.requires.can

pub swap-requires-clause-room : goal.swap-requires-clause-room
swap-requires-clause-room c =
    let number : length c.as_slice-number.result.now ≡ length c.args.self.now
    = omega (arith, ap length c.as_slice-number.ensures.value, ap length c.self.view_is, length-changes c.self.inside.rows.items (lists c.self.inside.items.items c.self.inside.bytes.items c.self.inside.beside.items))
    in subst (λ n. IfSome (slice_get c.args.self.now (n - 1)) (λ x. HasRoom c.args.machine.now.spare x)) (sym number) c.requires.room

pub returns-else-is_within-clause-machine : goal.returns-else-is_within-clause-machine
returns-else-is_within-clause-machine c =
    let number : length c.as_slice-number.result.now ≡ length c.args.self.now
    = omega (arith, ap length c.as_slice-number.ensures.value, ap length c.self.view_is, length-changes c.self.inside.rows.items (lists c.self.inside.items.items c.self.inside.bytes.items c.self.inside.beside.items))
    in subst (λ n. IfSome (slice_get c.args.self.now (n - 1)) (λ x. IsSwapOf c.args.machine.now.whole x c.swap.new.machine.whole)) number c.swap.ensures.machine

pub returns-else-is_within-clause-changes : goal.returns-else-is_within-clause-changes
returns-else-is_within-clause-changes c =
    let number : length c.as_slice-number.result.now ≡ length c.args.self.now
    = omega (arith, ap length c.as_slice-number.ensures.value, ap length c.self.view_is, length-changes c.self.inside.rows.items (lists c.self.inside.items.items c.self.inside.bytes.items c.self.inside.beside.items))
    in subst (λ n. IfSome (slice_get c.args.self.now (n - 1)) (λ x. c.swap.new.self ≡ set c.args.self.now (n - 1) (change_after_swap c.args.machine.now.whole x))) number c.swap.ensures.changes
