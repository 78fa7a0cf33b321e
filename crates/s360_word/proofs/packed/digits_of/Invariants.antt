use Rattle.std.proofs.Common.{◌≡◌, ◌-◌, ◌/◌, ◌^◌}
use Rattle.s360_model.specs.Packed.{packed_digits}
use Rattle.s360_word.proofs.packed.digits_of.Given as goal

abbrev pub invariant-loop-place : goal.invariant-loop-place
invariant-loop-place l = l.digits ≡ packed_digits (15 - l.place) (l.number / 10 ^ l.place)
