use Rattle.std.proofs.Common.{◌∙◌, ◌++◌, ◌∷◌, List, ap}
use Rattle.s360_store.specs.declared.place.Place.{Place}
use Rattle.s360_store.specs.declared.place.Place.TheVariants.{Psw}
use Rattle.s360_machine.specs.Machine.{seen}
use Rattle.s360_source.specs.Fields.{field_of}
use Rattle.s360_source.specs.Parts.{places_of_part}
use Rattle.s360_source.specs.Walks.{with_decided}
use Rattle.s360_source.proofs.FieldLemmas.{fields-code, fields-places, keys_of}
use Rattle.s360_source.proofs.fields.push_fields.Goals as goal

pub returns-clause-code : goal.returns-clause-code
returns-clause-code c =
    fields-code c.args.kind (field_of c.args.first.now) (field_of c.args.second.now)
    (seen c.args.machine.now.whole) _ _ _ _ c.of_access.ensures c.and.ensures c.check-met.ensures c.check-other_met.ensures

pub returns-clause-read : goal.returns-clause-read
returns-clause-read c =
    c.in_ok-decide.ensures
    ∙ ap (λ (ps : List Place). with_decided c.args.question (Psw ∷ (ps ++ places_of_part c.keys_looked_at-other_keys.result)) c.args.found.now.items)
    c.keys_looked_at-keys.ensures
    ∙ ap (λ (ps : List Place). with_decided c.args.question
    (Psw ∷ (keys_of (seen c.args.machine.now.whole) (field_of c.args.first.now) c.args.kind ++ ps)) c.args.found.now.items)
    c.keys_looked_at-other_keys.ensures
    ∙ ap (λ (ps : List Place). with_decided c.args.question ps c.args.found.now.items)
    (fields-places c.args.kind (field_of c.args.first.now) (field_of c.args.second.now)
    (seen c.args.machine.now.whole))
