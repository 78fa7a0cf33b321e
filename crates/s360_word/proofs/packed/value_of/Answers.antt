use Rattle.std.proofs.Common.{◌≡◌, ◌≤◌, ◌-◌, ◌^◌, refl, sym, arith}
use Rattle.std.proofs.Math.Nat.{one-le-pow, pow-le-pow_right}
use Rattle.s360_model.specs.Packed.{digits_value}
use Rattle.s360_word.proofs.PackedLemmas.{digits_value-below, digits_value-next, digits_value-none, digits_value-room}
use Rattle.s360_word.proofs.packed.value_of.Goals as goal

pub loop-place-init : goal.loop-place-init
unfolding digits_value
loop-place-init c = refl

pub pow-requires : goal.pow-requires
pow-requires c =
    let most : c.loop-place.place - 1 ≤ 14 = omega arith in
    let room : 16 ^ (c.loop-place.place - 1) ≤ 16 ^ 14 = pow-le-pow_right (omega arith) most in
    omega arith

pub nonzero_div-digit : goal.nonzero_div-digit
nonzero_div-digit c = rw c.pow.ensures (one-le-pow (c.loop-place.place - 1) 16 (omega arith))

pub returns-then-digit-gt9-clause-value : goal.returns-then-digit-gt9-clause-value
returns-then-digit-gt9-clause-value c =
    sym (digits_value-none (c.loop-place.place - 1) c.args.digits (omega arith) (rw c.pow.ensures at c.if-digit-gt9.true))

pub overflow_mul-value : goal.overflow_mul-value
overflow_mul-value c =
    omega (arith, digits_value-room c.loop-place.place _ c.loop-place.value c.loop-place-test.true c.loop-place.invariant)

pub overflow_add-value : goal.overflow_add-value
overflow_add-value c =
    omega (arith, digits_value-room c.loop-place.place _ c.loop-place.value c.loop-place-test.true c.loop-place.invariant)

pub loop-place-preserved : goal.loop-place-preserved
loop-place-preserved c =
    rw c.pow.ensures (digits_value-next c.loop-place.place c.args.digits c.loop-place.value c.loop-place-test.true c.loop-place.auto.place c.loop-place.invariant (rw c.pow.ensures at c.if-digit-gt9.false))

pub returns-clause-below : goal.returns-clause-below
returns-clause-below c =
    let done : c.loop-place.place ≡ 0 = omega arith in
    digits_value-below 15 _ _ (rw done at c.loop-place.invariant)
