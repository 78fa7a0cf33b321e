use Rattle.std.proofs.Common.{◌∙◌, ◌++◌, List, Option, ap, sym}
use Rattle.s360_store.specs.declared.place.Place.{Place}
use Rattle.s360_store.specs.Spans.{byte_places}
use Rattle.s360_channel.specs.declared.configured_unit.ConfiguredUnit.{ConfiguredUnit}
use Rattle.s360_machine.specs.Machine.{seen}
use Rattle.s360_source.specs.{EventWalks.units_named, Parts.places_of_part, Walks.with_decided}
use Rattle.s360_source.proofs.IoLemmas.{start-decided}
use Rattle.s360_source.proofs.io.push_start.Goals as goal

pub returns-in_ok-decide-in-Some : goal.returns-in_ok-decide-in-Some
returns-in_ok-decide-in-Some c =
    let words : List Place = places_of_part c.first_words-word.result.0 ++ places_of_part c.first_words-word.result.1
    in rw c.in-Some.is (start-decided c.args.question c.in-Some.unit (seen c.args.machine.now.whole) words c.args.found.now.items _ _
    (sym c.if-is_unavailable.false ∙ c.is_unavailable.ensures) (c.first_words-word.ensures c.in-Some.unit)
    (c.in_ok-push_units.ensures ∙ ap (λ (o : Option ConfiguredUnit). with_decided c.args.question (units_named o) c.args.found.now.items) c.in-Some.is)
    (c.in_ok-decide-in-Some.ensures ∙ ap (λ a. with_decided c.args.question (byte_places a 4 ++ words) c.push_units.new.found.items) c.new.ensures))
