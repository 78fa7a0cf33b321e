use Rattle.std.proofs.Common.{◌≤◌, ◌<◌, ◌^◌, lit<, arith}
use Rattle.std.proofs.Math.Nat.{pow-le-pow_right}
use Rattle.s360_language.proofs.arguments.hexadecimal_in.Goals as goal

pub overflow_cast-result : goal.overflow_cast-result
overflow_cast-result c =
    let top : 16 ^ c.args.most ≤ 16 ^ 8 = pow-le-pow_right (lit< tt) c.requires
    in let below : c.in_ok-number.number < 16 ^ c.args.most = c.in_ok-number.ensures.below
    in omega (arith, top, below)
