use Rattle.std.proofs.Common.{◌∙◌, ◌∷◌, List, ap, sym}
use Rattle.s360_store.specs.declared.place.Place.{Place}
use Rattle.s360_store.specs.declared.place.Place.TheVariants.{Psw}
use Rattle.s360_machine.specs.Machine.{seen}
use Rattle.s360_source.specs.Walks.{with_decided}
use Rattle.s360_source.proofs.ReadingPlaces.{conditions-places}
use Rattle.s360_source.proofs.WalkLemmas.{conditions-code}
use Rattle.s360_source.proofs.access.push_conditions.Goals as goal

pub returns-clause-code : goal.returns-clause-code
returns-clause-code c =
    c.exception_of.ensures.code ∙ sym (conditions-code c.args.address c.args.boundary c.args.count c.args.kind (seen c.args.machine.now.whole))

pub returns-clause-read : goal.returns-clause-read
returns-clause-read c =
    c.in_ok-decide.ensures
    ∙ ap (λ (ps : List Place). with_decided c.args.question (Psw ∷ ps) c.args.found.now.items) c.keys_looked_at-keys.ensures
    ∙ ap (λ (ps : List Place). with_decided c.args.question ps c.args.found.now.items)
    (sym (conditions-places c.args.address c.args.boundary c.args.count c.args.kind (seen c.args.machine.now.whole)))
