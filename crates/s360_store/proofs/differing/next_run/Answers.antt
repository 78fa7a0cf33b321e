use Rattle.std.proofs.Common.{◌≡◌, ◌<◌, ◌+◌, ◌-◌, ◌∙◌, ap, sym, get_or, arith}
use Rattle.s360_store.proofs.KeepLemmas.{stored-at}
use Rattle.s360_store.proofs.DifferingLemmas.{differ-more}
use Rattle.s360_store.proofs.differing.next_run.Goals as goal

pub loop-end-preserved : goal.loop-end-preserved
loop-end-preserved c =
    let new = c.args.new.now
    in let stored = c.args.stored.now
    in let end = c.loop-end.end
    in differ-more stored new c.first_other-start.result end 16 c.loop-end-test.true c.loop-end.invariant
    (λ j a b e.
    let within : j - end < 16 = omega (arith, a, b)
    in let sum : end + (j - end) ≡ j = omega (arith, a)
    in c.all_differ.ensures c.if-all_differ.true (j - end) within
    (stored-at new end 16 (j - end) within ∙ ap (λ k. get_or new k 0) sum ∙ sym e ∙ ap (λ k. get_or stored k 0) (sym sum) ∙ sym (stored-at stored end 16 (j - end) within)))
