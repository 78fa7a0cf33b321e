use Rattle.std.proofs.Common.{ap, arith, length, refl}
use Rattle.s360_machine.specs.Packed.{IsEnd, lists}
use Rattle.s360_machine.proofs.PackedLemmas.{There, length-changes, own-there, same-lists, slices}
use Rattle.s360_machine.proofs.packed.Packed.own.Goals as goal
use Rattle.s360_machine.proofs.packed.Packed.own.Goals.{After-deref-7}

pub end_of-end-requires-clause-inside : goal.end_of-end-requires-clause-inside
end_of-end-requires-clause-inside c =
    let inside = rw (← c.self.view_is) at c.requires.inside
    in omega (arith, inside, ap length c.deref.ensures.value, length-changes c.self.inside.rows.items (lists c.self.inside.items.items c.self.inside.bytes.items c.self.inside.beside.items))

ended : (c : After-deref-7) → IsEnd c.self.inside.rows.items (lists c.self.inside.items.items c.self.inside.bytes.items c.self.inside.beside.items) c.end_of-end.result
ended c = rw (c.deref.ensures.value, c.deref-2.ensures.value, c.deref-3.ensures.value, c.deref-4.ensures.value) at c.end_of-end.ensures.end

there : (c : After-deref-7) → There c.self.inside.rows.items (lists c.self.inside.items.items c.self.inside.bytes.items c.self.inside.beside.items) c.index.result.now
    (slices (lists c.deref-5.result.now c.deref-6.result.now c.deref-7.result.now) c.before-start.result c.end_of-end.result) c.args.number
there c =
    own-there c.self.inside.rows.items (lists c.self.inside.items.items c.self.inside.bytes.items c.self.inside.beside.items) (lists c.deref-5.result.now c.deref-6.result.now c.deref-7.result.now)
    c.end_of-end.result c.before-start.result c.index.result.now c.args.number (ended c) c.end_of-end.ensures.rows c.requires.some c.index.ensures c.before-start.ensures
    (same-lists _ _ c.deref-5.ensures.value c.deref-6.ensures.value c.deref-7.ensures.value)

pub returns-clause-own : goal.returns-clause-own
returns-clause-own c =
    let here = there (goal.at.returns-clause-own c).After-deref-7
    in rw (← c.self.view_is, here.change) (record { over = here.over; beside = here.beside; change = refl })

pub returns-clause-over : goal.returns-clause-over
returns-clause-over c = (there (goal.at.returns-clause-over c).After-deref-7).over
