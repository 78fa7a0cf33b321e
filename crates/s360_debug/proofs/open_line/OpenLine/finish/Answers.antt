use Rattle.std.proofs.Common.{◌≤◌, ap, arith, length}
use Rattle.s360_debug.proofs.open_line.OpenLine.finish.Goals as goal

pub unreachable-requires : goal.unreachable-requires
unreachable-requires c =
    let digits : length c.format.result.now ≤ 10 = c.format.ensures.fits
    in omega (arith, digits, ap length c.as_bytes.ensures.value, c.in_default.ensures.full, c.self.invariant)

pub push_reserved-requires : goal.push_reserved-requires
push_reserved-requires c =
    let digits : length c.format.result.now ≤ 10 = c.format.ensures.fits
    in omega (arith, digits, ap length c.as_bytes.ensures.value, c.in-Ok.ensures.len, c.in-Ok.ensures.capacity, c.self.invariant)
