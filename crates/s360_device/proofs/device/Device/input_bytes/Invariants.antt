use Rattle.std.proofs.Common.{◌≡◌, take, drop}
use Rattle.s360_device.proofs.device.Device.input_bytes.Given as goal

abbrev pub invariant-loop-i : goal.invariant-loop-i
invariant-loop-i g l = take l.i l.into ≡ take l.i (drop l.first (g.Self.Device.input_of l.self l.command))
