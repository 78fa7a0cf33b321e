-- Sixteen digits of a radix of at most 16 fit a doubleword.
use Rattle.std.proofs.Common.{◌≡◌, ◌<◌, ◌≤◌, ◌+◌, ◌*◌, ◌^◌, ℕ, lit<, arith, refl}
use native.Mathlib.Numerals.{unary_clauses}
use Rattle.std.proofs.Math.Nat.{pow-le-pow_left, pow-le-pow_right, mul-le-mul_right}

-- a digit more, behind a number of i digits
pub digit_more : (n d radix i : ℕ) → n < radix ^ i → d < radix → n * radix + d < radix ^ i * radix
digit_more n d radix i few digit =
    let more : (n + 1) * radix ≤ radix ^ i * radix = mul-le-mul_right radix (omega (arith, few))
    in omega (arith, more, digit)

pub power_of_radix : (radix i : ℕ) → radix ≤ 16 → i < 16 → radix ^ i * radix ≤ 2 ^ 64
power_of_radix radix i low few =
    let base : radix ^ (i + 1) ≤ 16 ^ (i + 1) = pow-le-pow_left low (i + 1)
    in let last : i + 1 ≤ 16 = omega (arith, few)
    in let top : 16 ^ (i + 1) ≤ 16 ^ 16 = pow-le-pow_right (lit< tt) last
    in let is : radix ^ (i + 1) ≡ radix ^ i * radix = simp unary_clauses refl
    in omega (arith, is, base, top)
