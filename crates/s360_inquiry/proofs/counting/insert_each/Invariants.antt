use Rattle.std.proofs.Common.{◌≡◌, take}
use Rattle.s360_inquiry.specs.Counts.{with_numbers}
use Rattle.s360_inquiry.proofs.counting.insert_each.Given as goal

abbrev pub invariant-loop-number : goal.invariant-loop-number
invariant-loop-number l = l.numbers.keys ≡ with_numbers l.initial.numbers.keys (take l.number-index l.more)
