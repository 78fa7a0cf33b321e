use Rattle.std.proofs.Common.{arith}
use Rattle.s360_machine.proofs.packed.Own.len.Goals as goal

pub overflow_add-result : goal.overflow_add-result
overflow_add-result c = omega (arith, c.len.ensures.few c.args.self.now.items.now c.args.self.now.bytes.now c.requires, c.len-in-Some.ensures.fits)
