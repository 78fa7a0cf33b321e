use Rattle.std.proofs.Common.{◌∙◌, ◌++◌, [], ◌∷◌, List, ap, sym}
use Rattle.s360_store.specs.declared.place.Place.{Place}
use Rattle.s360_source.specs.Footprints.{Footprint}
use Rattle.s360_source.proofs.EventLemmas.{sources-are, sources-lacked}
use Rattle.s360_source.proofs.event.Footprint.sources.Goals as goal

pub returns-then-not-is_of_unit : goal.returns-then-not-is_of_unit
returns-then-not-is_of_unit c =
    let f : Footprint = c.args.self.now
    in c.in_ok-push.ensures.items ∙ ap (λ (ps : List Place). ps ++ c.args.place ∷ []) c.new-found.ensures.items
    ∙ sources-lacked f.machine f.event c.args.place (sym c.is_of_unit.ensures ∙ c.if-not-is_of_unit.true)

pub returns : goal.returns
returns c =
    let f : Footprint = c.args.self.now
    in sources-are f.machine f.event c.args.place _ _ (sym c.is_of_unit.ensures ∙ c.if-not-is_of_unit.false)
    (c.in_ok-push.ensures.items ∙ ap (λ (ps : List Place). ps ++ c.args.place ∷ []) c.new-found.ensures.items) c.in_ok-push-2.ensures
