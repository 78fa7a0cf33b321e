use Rattle.std.proofs.Common.{◌≡◌, ◌-◌, ◌/◌, ◌^◌, refl, arith}
use Rattle.std.proofs.Math.Nat.{one-le-pow}
use Rattle.s360_model.specs.Packed.{packed_digits}
use Rattle.s360_word.proofs.PackedLemmas.{packed_digits-below, packed_digits-next, packed_digits-room}
use Rattle.s360_word.proofs.packed.digits_of.Goals as goal

pub loop-place-init : goal.loop-place-init
unfolding packed_digits
loop-place-init c = refl

pub overflow_mul-digits : goal.overflow_mul-digits
overflow_mul-digits c =
    let room = packed_digits-room c.loop-place.place (c.args.number / 10 ^ c.loop-place.place) c.loop-place-test.true in
    rw c.loop-place.invariant (omega arith)

pub nonzero_div-digits : goal.nonzero_div-digits
nonzero_div-digits c = rw c.pow.ensures (one-le-pow (c.loop-place.place - 1) 10 (omega arith))

pub overflow_add-digits : goal.overflow_add-digits
overflow_add-digits c =
    let room = packed_digits-room c.loop-place.place (c.args.number / 10 ^ c.loop-place.place) c.loop-place-test.true in
    rw c.loop-place.invariant (omega arith)

pub loop-place-preserved : goal.loop-place-preserved
loop-place-preserved c =
    rw (c.pow.ensures, c.loop-place.invariant) (packed_digits-next c.loop-place.place c.args.number c.loop-place-test.true c.loop-place.auto.place)

pub returns-clause-below : goal.returns-clause-below
returns-clause-below c =
    let done : c.loop-place.place ≡ 0 = omega arith in
    rw (rw done at c.loop-place.invariant) (packed_digits-below 15 (c.args.number / 1))
