use Rattle.std.proofs.Common.{◌≡◌}
use Rattle.s360_machine.specs.Machine.{Machine}
use Rattle.s360_source.specs.Several.{moved_registers}
use Rattle.s360_source.specs.Walks.{with_stores_of}
use Rattle.s360_source.proofs.several.push_moved.Given as goal

abbrev pub invariant-loop-i : goal.invariant-loop-i
invariant-loop-i l = (m : Machine) → l.found.items ≡ with_stores_of l.question m (moved_registers l.kind l.r1 l.address l.i) l.initial.found.items
