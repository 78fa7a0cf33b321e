use Rattle.std.proofs.Common.{◌≡◌, ◌-◌, ◌∙◌, ap, sym, length, refl}
use Rattle.s360_store.proofs.ItemLemmas.{AddsRun-joined, AddsRun-new}
use Rattle.s360_store.proofs.cells.push_run.Goals as goal

pub returns-in-Some-clause-ok : goal.returns-in-Some-clause-ok
returns-in-Some-clause-ok c =
    let is = c.args.items.now.items
    in let all : c.len-last.result ≡ length is = c.len-last.ensures ∙ sym c.as_slice.ensures.len ∙ ap length c.as_slice.ensures.value
    in rw all (AddsRun-joined is c.args.address c.args.count (length is - 1) c.in-Some.item refl (rw c.as_slice.ensures.value at c.in-Some.ensures) c.requires.items c.requires.some c.requires.inside)

pub returns-in_ok-push-in-None-clause-ok : goal.returns-in_ok-push-in-None-clause-ok
returns-in_ok-push-in-None-clause-ok c =
    rw c.in_ok-push-in-None.ensures.items (AddsRun-new c.args.items.now.items c.args.address c.args.count c.requires.items c.requires.some c.requires.inside)
