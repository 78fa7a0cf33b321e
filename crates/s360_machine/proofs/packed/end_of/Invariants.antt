use Rattle.std.proofs.Common.{◌≤◌}
use Rattle.s360_machine.specs.Packed.{IsEnd, lists}
use Rattle.s360_machine.proofs.packed.end_of.Given as goal

abbrev pub invariant-loop-end : goal.invariant-loop-end
invariant-loop-end l = record {
  end : IsEnd l.rows (lists l.items l.bytes l.beside) l.end;
  more : l.count ≤ l.end.rows;
}

abbrev pub decreases-loop-end : goal.decreases-loop-end
decreases-loop-end l = l.end.rows
