use Rattle.std.proofs.Common.{◌≡◌, [], take, flat_map}
use Rattle.s360_inquiry.specs.Counts.{numbers_of, with_numbers}
use Rattle.s360_inquiry.proofs.counting.numbers_of.Given as goal

abbrev pub invariant-loop-place : goal.invariant-loop-place
invariant-loop-place l = l.numbers.keys ≡ with_numbers [] (flat_map (numbers_of l.recording) (take l.place-index l.place-items))
