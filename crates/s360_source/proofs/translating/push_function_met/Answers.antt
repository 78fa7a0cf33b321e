use Rattle.std.proofs.Common.{◌∙◌, ◌∷◌, List, ap}
use Rattle.s360_store.specs.declared.place.Place.{Place}
use Rattle.s360_store.specs.declared.place.Place.TheVariants.{Byte}
use Rattle.s360_machine.specs.Machine.{seen}
use Rattle.s360_source.specs.Walks.{with_decided}
use Rattle.s360_source.proofs.TranslateLemmas.{selecting-is, selecting-places}
use Rattle.s360_source.proofs.translating.push_function_met.Goals as goal

pub returns-clause-met : goal.returns-clause-met
returns-clause-met c =
    c.check.ensures ∙ selecting-is c.args.table c.args.at _ (seen c.args.machine.now.whole) c.function_address-selected.ensures

pub returns-clause-read : goal.returns-clause-read
returns-clause-read c =
    c.in_ok-decide.ensures
    ∙ ap (λ (ps : List Place). with_decided c.args.question (Byte c.args.at ∷ ps) c.args.found.now.items) c.keys_looked_at-keys.ensures
    ∙ ap (λ (ps : List Place). with_decided c.args.question ps c.args.found.now.items)
    (selecting-places c.args.table c.args.at _ (seen c.args.machine.now.whole) c.function_address-selected.ensures)
