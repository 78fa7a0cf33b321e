use Rattle.std.proofs.Common.{◌≡◌, ◌-◌, ◌/◌, ◌^◌, Some}
use Rattle.s360_model.specs.Packed.{digits_value}
use Rattle.s360_word.proofs.packed.value_of.Given as goal

abbrev pub invariant-loop-place : goal.invariant-loop-place
invariant-loop-place l = digits_value (15 - l.place) (l.digits / 16 ^ l.place) ≡ Some l.value
