-- Numbers in bytes.
use Rattle.std.proofs.Common.{ℕ, ◌<◌, ◌≤◌, ◌+◌, ◌*◌, ◌^◌, arith}
use Rattle.std.proofs.Math.Nat.{pow-le-pow_right}

-- a number of less than 8 bytes leaves room for one more
pub room_for_a_byte : (count number : ℕ) → count < 8 → number < 256 ^ count → number * 256 + 256 ≤ 2 ^ 64
room_for_a_byte count number few fits =
    let some : 0 < 256 = omega arith
    in let short : count ≤ 7 = omega arith
    in let power : 256 ^ count ≤ 256 ^ 7 = pow-le-pow_right some short
    in omega arith
