use Rattle.std.proofs.Common.{◌≡◌, ◌∙◌, Some, ap, sym}
use Rattle.s360_store.specs.declared.place.Place.TheVariants.{Psw}
use Rattle.s360_store.specs.CoreChanges.{CoreChange}
use Rattle.s360_store.proofs.ExchangeLemmas.{AreCellsOf-kept}
use Rattle.s360_store.proofs.core_change.CoreChange.exchange.Goals as goal

pub exchange-requires-in-Some : goal.exchange-requires-in-Some
exchange-requires-in-Some c =
    let same : c.self.inside.cells ≡ c.args.self.now.cells = ap (λ (x : CoreChange). x.cells) c.self.view_is
    in let psw : c.args.self.now.psw ≡ Some c.in-Some.psw = sym (ap (λ (x : CoreChange). x.psw) c.self.view_is) ∙ c.in-Some.is
    in let can = rw psw at c.requires.can
    in record { can = rw (c.exchange_psw.ensures.core, same) (AreCellsOf-kept c.args.core.now c.args.self.now.cells Psw c.in-Some.psw can.3) }
