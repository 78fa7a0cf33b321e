use Rattle.std.proofs.Common.{◌≡◌, ◌++◌, flat_map}
use Rattle.std.specs.List.{range_with_len}
use Rattle.s360_inquiry.specs.Visits.{register_since}
use Rattle.s360_inquiry.proofs.visit.push_registers.Given as goal

abbrev pub invariant-loop-number : goal.invariant-loop-number
invariant-loop-number l = l.text ≡ l.initial.text ++ flat_map (register_since l.recording l.first) (range_with_len 0 l.number)
