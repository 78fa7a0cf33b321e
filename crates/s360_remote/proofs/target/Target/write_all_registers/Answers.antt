use Rattle.std.proofs.Common.{arith, sym, length-take-le}
use Rattle.s360_remote.proofs.target.Target.write_all_registers.Goals as goal

pub slice_bounds-read_u32_into-end : goal.slice_bounds-read_u32_into-end
slice_bounds-read_u32_into-end c = sym (length-take-le 72 c.args.bytes.now (omega (arith, c.if-bytes-ne-ALL_REGISTERS.false)))

pub read_u32_into-requires : goal.read_u32_into-requires
read_u32_into-requires c = length-take-le 72 c.args.bytes.now (omega (arith, c.if-bytes-ne-ALL_REGISTERS.false))
