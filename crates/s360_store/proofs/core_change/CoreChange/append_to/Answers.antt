use Rattle.std.proofs.Common.{◌≡◌, ◌++◌, ◌∷◌, ◌∙◌, [], ◌≤◌, Some, ap, sym, length, arith}
use Rattle.s360_store.specs.declared.items.Item.TheVariants.{Single}
use Rattle.s360_store.specs.declared.place.Cell.{Cell}
use Rattle.s360_store.specs.CoreChanges.{CoreChange}
use Rattle.s360_store.proofs.CoreChangeLemmas.{Appended-psw}
use Rattle.s360_store.proofs.core_change.CoreChange.append_to.Goals as goal

pub returns-clause-ok : goal.returns-clause-ok
returns-clause-ok c =
    let same : c.self.inside.cells ≡ c.args.self.now.cells = ap (λ (x : CoreChange). x.cells) c.self.view_is
    in let psw : c.args.self.now.psw ≡ Some c.in-Some.psw = sym (ap (λ (x : CoreChange). x.psw) c.self.view_is) ∙ c.in-Some.is
    in let few : length c.args.self.now.cells ≤ 1000000 = rw (← same) (omega (arith, c.len.ensures.few, c.len.ensures.len))
    in Appended-psw c.args.items.now.items c.push.new.self.items _ _ _ c.args.self.now c.in-Some.psw psw
    (c.in_ok-push.ensures.items ∙ ap (λ (k : Cell). c.args.items.now.items ++ Single k ∷ []) c.psw_cell.ensures)
    (rw same at c.in_default-append_to.ensures.ok) few
