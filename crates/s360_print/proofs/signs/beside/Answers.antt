use Rattle.std.proofs.Common.{◌∙◌, arith}
use Rattle.s360_print.proofs.SignLemmas.{entry-next}
use Rattle.s360_print.proofs.signs.beside.Goals as goal

pub loop-i-preserved : goal.loop-i-preserved
loop-i-preserved c = c.loop-i.invariant ∙ entry-next c.args.first.now c.args.second.now c.loop-i.i c.args.byte (omega arith) (omega arith) c.if-first-i.false
