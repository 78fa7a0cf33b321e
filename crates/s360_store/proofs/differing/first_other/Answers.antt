use Rattle.std.proofs.Common.{◌≡◌, ◌<◌, ◌+◌, ◌-◌, ◌∙◌, ap, sym, get_or, arith}
use Rattle.s360_store.proofs.KeepLemmas.{stored-at}
use Rattle.s360_store.proofs.DifferingLemmas.{same-most}
use Rattle.s360_store.proofs.differing.first_other.Goals as goal

pub loop-start-preserved : goal.loop-start-preserved
loop-start-preserved c =
    let new = c.args.new.now
    in let stored = c.args.stored.now
    in let start = c.loop-start.start
    in same-most stored new c.args.from start 16 c.loop-start-test.true c.loop-start.invariant
    (λ j a b.
    let within : j - start < 16 = omega (arith, a, b)
    in let sum : start + (j - start) ≡ j = omega (arith, a)
    in ap (λ k. get_or stored k 0) (sym sum) ∙ sym (stored-at stored start 16 (j - start) within)
    ∙ sym (c.all_same.ensures c.if-all_same.true (j - start) within) ∙ stored-at new start 16 (j - start) within ∙ ap (λ k. get_or new k 0) sum)
