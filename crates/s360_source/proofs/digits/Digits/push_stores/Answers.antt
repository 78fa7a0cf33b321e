use Rattle.std.proofs.Common.{arith}
use Rattle.s360_source.proofs.DigitLemmas.{digits-more}
use Rattle.s360_source.proofs.digits.Digits.push_stores.Goals as goal

pub loop-i-preserved : goal.loop-i-preserved
loop-i-preserved c m =
    digits-more c.args.question c.args.self.now c.loop-i.i m c.args.found.now.items c.loop-i.found.items _ (omega
    (arith, c.loop-i-test.true, c.from-i-end.ensures))
    (c.loop-i.invariant m) (c.in_ok-push_store.ensures m)
