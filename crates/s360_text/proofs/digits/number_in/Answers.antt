use Rattle.std.proofs.Common.{◌<◌, ◌≤◌, ◌*◌, ◌^◌, arith}
use Rattle.std.proofs.Math.Nat.{pow-le-pow_right}
use Rattle.s360_text.proofs.DigitLemmas.{digit_more, power_of_radix}
use Rattle.s360_text.proofs.digits.number_in.Goals as goal

pub overflow_mul-number : goal.overflow_mul-number
overflow_mul-number c =
    let room : c.args.radix ^ c.loop-byte.byte-index * c.args.radix ≤ 2 ^ 64 = power_of_radix c.args.radix c.loop-byte.byte-index c.requires.high (omega arith)
    in let more = digit_more c.loop-byte.number 0 c.args.radix c.loop-byte.byte-index c.loop-byte.invariant.below (omega arith)
    in rw c.from-in-loop-byte.ensures (omega (arith, room, more))

pub overflow_add-number : goal.overflow_add-number
overflow_add-number c =
    let room : c.args.radix ^ c.loop-byte.byte-index * c.args.radix ≤ 2 ^ 64 = power_of_radix c.args.radix c.loop-byte.byte-index c.requires.high (omega arith)
    in let digit : c.in_ok-digit.digit < c.args.radix = omega (arith, c.in_ok-digit.ensures.value)
    in let more = digit_more c.loop-byte.number c.in_ok-digit.digit c.args.radix c.loop-byte.byte-index c.loop-byte.invariant.below digit
    in rw (c.from-in-loop-byte.ensures, c.from-in-loop-byte-2.ensures) (omega (arith, room, more))

pub returns-clause-below : goal.returns-clause-below
returns-clause-below c =
    let more : c.args.radix ^ c.loop-byte.byte-index ≤ c.args.radix ^ c.args.most = pow-le-pow_right (omega (arith, c.requires.low)) (omega arith)
    in omega (arith, more, c.loop-byte.invariant.below)
