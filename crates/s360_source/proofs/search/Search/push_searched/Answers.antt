use Rattle.std.proofs.Common.{◌∙◌, ◌∷◌, ap}
use Rattle.std.specs.Prelude.{is_some}
use Rattle.s360_store.specs.declared.place.Place.TheVariants.{Psw}
use Rattle.s360_machine.specs.Machine.{seen}
use Rattle.s360_footprint.specs.LeftToRightRows.{search_read}
use Rattle.s360_footprint.specs.Readings.{places_read, run}
use Rattle.s360_source.specs.Walks.{found_walk, with_store}
use Rattle.s360_source.proofs.SearchLemmas.{searched-walked}
use Rattle.s360_source.proofs.search.Search.push_searched.Goals as goal

pub returns : goal.returns
returns c next =
    let m = seen c.args.machine.now.whole
    in let search = search_read c.args.self.now.table c.args.self.now.first 0 c.args.self.now.count
    in searched-walked c.args.question c.args.self.now.first c.args.self.now.table c.args.self.now.count next m c.args.found.now.items _ _
    c.in_ok-push_decided.ensures
    (c.in_ok-push_store.ensures
    ∙ ap (with_store c.args.question Psw (Psw ∷ places_read search m)) (c.in_ok-push_registers.ensures
    ∙ ap (found_walk c.args.question (is_some (run search m)) (places_read search m)) c.in_ok-decide.ensures))
