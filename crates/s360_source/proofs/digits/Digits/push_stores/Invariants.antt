use Rattle.std.proofs.Common.{◌≡◌}
use Rattle.s360_machine.specs.Machine.{Machine}
use Rattle.s360_footprint.specs.DigitRows.{digit_stores}
use Rattle.s360_source.specs.Fields.{operands_of}
use Rattle.s360_source.specs.Walks.{with_stores_of}
use Rattle.s360_source.proofs.digits.Digits.push_stores.Given as goal

abbrev pub invariant-loop-i : goal.invariant-loop-i
invariant-loop-i l = (m : Machine) → l.found.items ≡ with_stores_of l.question m (digit_stores (operands_of l.self) l.i) l.initial.found.items
