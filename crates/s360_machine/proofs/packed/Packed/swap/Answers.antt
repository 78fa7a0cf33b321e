use Rattle.std.proofs.Common.{◌-◌, ◌++◌, ◌∙◌, sym, ap, arith, length, take, drop, set, refl, length-set}
use Rattle.s360_machine.specs.Packed.{IsEnd, Lists, change_of_row, changes_of_rows, lists}
use Rattle.s360_machine.specs.Change.{Change}
use Rattle.s360_machine.proofs.PackedLemmas.{Swapped, There, written, length-changes, own-there, same-lists, slices, swap-there, swapped-there}
use Rattle.s360_machine.proofs.packed.Packed.swap.Goals as goal
use Rattle.s360_machine.proofs.packed.Packed.swap.Goals.{After-exchange_row-arg-4-1, After-self-4-1}

pub end_of-end-requires-clause-inside : goal.end_of-end-requires-clause-inside
end_of-end-requires-clause-inside c =
    let inside = rw (← c.self.view_is) at c.requires.inside
    in omega (arith, inside, ap length c.deref.ensures.value, length-changes c.self.inside.rows.items (lists c.self.inside.items.items c.self.inside.bytes.items c.self.inside.beside.items))

abbrev before : After-exchange_row-arg-4-1 → Lists
before c = lists c.self.inside.items.items c.self.inside.bytes.items c.self.inside.beside.items

ended : (c : After-exchange_row-arg-4-1) → IsEnd c.self.inside.rows.items (before c) c.end_of-end.result
ended c = rw (c.deref.ensures.value, c.deref-2.ensures.value, c.deref-3.ensures.value, c.deref-4.ensures.value) at c.end_of-end.ensures.end

there : (c : After-exchange_row-arg-4-1) → There c.self.inside.rows.items (before c) c.index_mut-row.result.now
    (slices (lists c.deref_mut.result.now c.deref_mut-2.result.now c.deref_mut-3.result.now) c.before-start.result c.end_of-end.result) c.args.number
there c =
    own-there c.self.inside.rows.items (before c) (lists c.deref_mut.result.now c.deref_mut-2.result.now c.deref_mut-3.result.now)
    c.end_of-end.result c.before-start.result c.index_mut-row.result.now c.args.number (ended c) c.end_of-end.ensures.rows c.requires.some c.index_mut-row.ensures.value c.before-start.ensures
    (same-lists _ _ c.deref_mut.ensures.value c.deref_mut-2.ensures.value c.deref_mut-3.ensures.value)

pub exchange_row-requires-clause-over : goal.exchange_row-requires-clause-over
exchange_row-requires-clause-over c = (there (goal.at.exchange_row-requires-clause-over c).After-exchange_row-arg-4-1).over

pub exchange_row-requires-clause-can : goal.exchange_row-requires-clause-can
exchange_row-requires-clause-can c =
    let here = there (goal.at.exchange_row-requires-clause-can c).After-exchange_row-arg-4-1
    in rw here.change at (rw (← c.self.view_is) at c.requires.can)

pub exchange_row-requires-clause-room : goal.exchange_row-requires-clause-room
exchange_row-requires-clause-room c =
    let here = there (goal.at.exchange_row-requires-clause-room c).After-exchange_row-arg-4-1
    in rw here.change at (rw (← c.self.view_is) at c.requires.room)

-- the lists afterwards
abbrev after : After-self-4-1 → Lists
after c = lists
    (take c.self.inside.items.len ((written c.before-start.result.items (c.end_of-end.result.items - c.before-start.result.items) c.deref_mut.result.now c.exchange_row.new.items) ++ drop (length (written c.before-start.result.items (c.end_of-end.result.items - c.before-start.result.items) c.deref_mut.result.now c.exchange_row.new.items)) c.self.inside.items.items))
    (take c.self.inside.bytes.len ((written c.before-start.result.bytes (c.end_of-end.result.bytes - c.before-start.result.bytes) c.deref_mut-2.result.now c.exchange_row.new.bytes) ++ drop (length (written c.before-start.result.bytes (c.end_of-end.result.bytes - c.before-start.result.bytes) c.deref_mut-2.result.now c.exchange_row.new.bytes)) c.self.inside.bytes.items))
    (take c.self.inside.beside.len ((written c.before-start.result.beside (c.end_of-end.result.beside - c.before-start.result.beside) c.deref_mut-3.result.now c.exchange_row.new.beside) ++ drop (length (written c.before-start.result.beside (c.end_of-end.result.beside - c.before-start.result.beside) c.deref_mut-3.result.now c.exchange_row.new.beside)) c.self.inside.beside.items))

abbrev first : After-self-4-1 → Lists
first c = lists c.self.inside.items.items c.self.inside.bytes.items c.self.inside.beside.items

swapped : (c : After-self-4-1) → Swapped c.self.inside.rows.items (first c) (after c) c.end_of-end.result c.exchange_row.new.row (lists c.exchange_row.new.items c.exchange_row.new.bytes c.exchange_row.new.beside)
swapped c =
    let end : IsEnd c.self.inside.rows.items (first c) c.end_of-end.result
    = rw (c.deref.ensures.value, c.deref-2.ensures.value, c.deref-3.ensures.value, c.deref-4.ensures.value) at c.end_of-end.ensures.end
    in swapped-there c.self.inside.rows.items (lists c.deref_mut.result.now c.deref_mut-2.result.now c.deref_mut-3.result.now) (first c)
    (lists c.exchange_row.new.items c.exchange_row.new.bytes c.exchange_row.new.beside) (after c) c.end_of-end.result c.before-start.result c.index_mut-row.result.now c.exchange_row.new.row
    c.self.inside.items.len c.self.inside.bytes.len c.self.inside.beside.len end (omega (arith, c.end_of-end.ensures.rows, c.requires.some)) c.index_mut-row.ensures.value c.before-start.ensures
    c.exchange_row.ensures.same c.exchange_row.ensures.over
    (record { len = sym c.deref-2.ensures.len ∙ ap length c.deref-2.ensures.value; same = c.deref_mut.ensures.value; as_many = c.exchange_row.auto.items; is = refl })
    (record { len = sym c.deref-3.ensures.len ∙ ap length c.deref-3.ensures.value; same = c.deref_mut-2.ensures.value; as_many = c.exchange_row.auto.bytes; is = refl })
    (record { len = sym c.deref-4.ensures.len ∙ ap length c.deref-4.ensures.value; same = c.deref_mut-3.ensures.value; as_many = c.exchange_row.auto.beside; is = refl })

pub invariant_of-self : goal.invariant_of-self
invariant_of-self c = (
  (swapped c).packed,
  omega (arith, c.self.invariant.1, length-set c.self.inside.rows.items (c.end_of-end.result.rows - 1) c.exchange_row.new.row),
)

pub returns-clause-machine : goal.returns-clause-machine
returns-clause-machine c =
    let here = there (goal.at.returns-clause-machine c).After-exchange_row-arg-4-1
    in let can = rw here.change at (rw (← c.self.view_is) at c.requires.can)
    in rw (← c.self.view_is, here.change) (swap-there c.args.machine.now.whole c.exchange_row.new.self.whole _ _ can c.exchange_row.ensures.machine c.exchange_row.ensures.change c.exchange_row.ensures.fit)

pub returns-clause-changes : goal.returns-clause-changes
returns-clause-changes c =
    let here = there (goal.at.returns-clause-changes c).After-exchange_row-arg-4-1
    in rw (← c.self.view_is, here.change) ((swapped c).changes
    ∙ ap (λ n. set (changes_of_rows c.self.inside.rows.items (first c)) (n - 1) (change_of_row c.exchange_row.new.row (lists c.exchange_row.new.items c.exchange_row.new.bytes c.exchange_row.new.beside))) c.end_of-end.ensures.rows
    ∙ ap (λ (x : Change). set (changes_of_rows c.self.inside.rows.items (first c)) (c.args.number - 1) x) c.exchange_row.ensures.change)
