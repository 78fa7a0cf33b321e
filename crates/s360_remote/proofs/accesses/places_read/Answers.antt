use Rattle.std.proofs.Common.{◌≡◌, ◌∙◌, ◌++◌, ap, flat_map, filter, not, rules, List}
use Rattle.s360_store.specs.declared.place.Place.{Place}
use Rattle.s360_footprint.specs.EventRows.{deciders, sources}
use Rattle.s360_source.specs.Footprints.{Footprint}
use Rattle.s360_remote.specs.Accesses.{is_fetched}
use Rattle.s360_remote.proofs.PointLemmas.{filter-from_retained}
use Rattle.s360_remote.proofs.accesses.places_read.Goals as goal

pub returns : goal.returns
returns c =
    let f : Footprint = c.args.footprint.now
    in let left : c.retain.new.self.items ≡ filter (λ p. not (is_fetched f.machine f.event p)) c.push_sources.new.read.items
    = filter-from_retained _ (λ (p : Place). not (is_fetched f.machine f.event p)) _ (λ x b f' called. search rules) _ _ c.retain.ensures.filtered
    in left ∙ ap (λ (ps : List Place). filter (λ p. not (is_fetched f.machine f.event p)) ps)
    (c.in_ok-push_sources.ensures ∙ ap (λ (ps : List Place). ps ++ flat_map (sources f.machine f.event) c.args.stored.now) c.in_ok-read.ensures
    ∙ ap (λ (ps : List Place). deciders f.machine f.event ++ flat_map (sources f.machine f.event) ps) c.requires)
