use Rattle.std.proofs.Common.{◌<◌, arith}
use Rattle.s360_machine.specs.Packed.{lists}
use Rattle.s360_machine.proofs.PackedLemmas.{IsEnd-before, IsLast, last-row}
use Rattle.s360_machine.proofs.packed.end_of.Goals as goal

pub loop-end-preserved : goal.loop-end-preserved
loop-end-preserved c =
    let some : 0 < c.loop-end.end.rows = omega (arith, c.loop-end-test.true)
    in let here : IsLast c.args.rows.now (lists c.args.items.now c.args.bytes.now c.args.beside.now) c.loop-end.end c.index-rows-end.result
    = IsEnd-before _ _ c.loop-end.end c.index-rows-end.result c.loop-end.invariant.end some
    (last-row c.args.rows.now c.loop-end.end c.index-rows-end.result some c.loop-end.invariant.end.within.rows c.index-rows-end.is)
    in rw c.before-end.ensures (record { end = here.before; more = omega (arith, c.loop-end-test.true) })
