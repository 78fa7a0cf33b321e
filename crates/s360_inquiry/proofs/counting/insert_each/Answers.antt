use Rattle.std.proofs.Common.{arith, refl}
use Rattle.s360_inquiry.proofs.CountLemmas.{number-more}
use Rattle.s360_inquiry.proofs.counting.insert_each.Goals as goal

pub loop-number-preserved : goal.loop-number-preserved
loop-number-preserved c =
    number-more c.args.numbers.now.keys c.loop-number.numbers.keys _ c.args.more.now c.loop-number.number-index _ 0 (omega arith) refl
    c.loop-number.invariant c.in_ok-insert.ensures.keys
