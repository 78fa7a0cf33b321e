use Rattle.s360_machine.proofs.StretchLemmas.{Stretching}
use Rattle.s360_machine.proofs.row.stretches_of.Given as goal

abbrev pub invariant-loop-item : goal.invariant-loop-item
invariant-loop-item l = Stretching l.items l.bytes l.item-index l.count l.next
