use Rattle.std.proofs.Common.{◌≡◌, ◌+◌, ◌++◌, ◌∷◌, [], ◌∙◌, ap, sym, get_or, take, arith}
use Rattle.std.proofs.lemmas.List.{take_more}
use Rattle.s360_store.specs.declared.place.Cell.{Cell}
use Rattle.s360_store.specs.Cells.{IsFresh}
use Rattle.s360_store.proofs.ItemLemmas.{IsFresh-once}
use Rattle.s360_store.proofs.KeptLemmas.{cell-at}
use Rattle.s360_store.proofs.PlanPartLemmas.{after_put-fresh}
use Rattle.s360_store.proofs.plan.map_of.Goals as goal

pub loop-i-preserved : goal.loop-i-preserved
loop-i-preserved c =
    let cs = c.args.cells.now
    in let i = c.loop-i.i
    in let x : Cell = c.cell-cell.result
    in let here : x ≡ get_or cs i x = cell-at cs i x c.cell-cell.ensures
    in let fresh : IsFresh x.place (take i cs) = rw (← here) at (IsFresh-once cs i x (omega arith) c.requires.once)
    in let more : take (i + 1) cs ≡ take i cs ++ x ∷ [] = take_more cs i x (omega arith) ∙ ap (λ (y : Cell). take i cs ++ y ∷ []) (sym here)
    in rw (c.in_ok-insert.ensures.ok, c.loop-i.invariant) (after_put-fresh (take i cs) x.place x.value fresh ∙ sym more)
