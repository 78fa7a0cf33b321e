use Rattle.std.proofs.Common.{◌∙◌, ◌∷◌, List, ap}
use Rattle.s360_store.specs.declared.place.Place.{Place}
use Rattle.s360_store.specs.declared.place.Place.TheVariants.{Psw}
use Rattle.s360_store.specs.declared.protection.Access.{Access}
use Rattle.s360_fixed.specs.ProgramCodes.{program_code}
use Rattle.s360_machine.specs.Machine.{seen}
use Rattle.s360_footprint.specs.LeftToRightRows.{search_conditions_read, search_met, searched_row}
use Rattle.s360_footprint.specs.OperandReadings.{profile_of}
use Rattle.s360_source.specs.Walks.{with_decided}
use Rattle.s360_source.proofs.TranslateLemmas.{functions-code, functions-read}
use Rattle.s360_source.proofs.WalkLemmas.{done-walked, refused-walked}
use Rattle.s360_source.proofs.search.push_translate_and_test.Goals as goal

pub returns-in-Some : goal.returns-in-Some
returns-in-Some c next =
    let m = seen c.args.machine.now.whole
    in let p = profile_of c.args.machine.now.whole.core
    in refused-walked c.args.question (search_conditions_read p c.args.first c.args.table c.args.count) program_code
    (searched_row c.args.first c.args.table c.args.count next) m c.args.found.now.items _ _ _
    (functions-code Access.Fetch c.args.first c.args.count (λ key. search_met p c.args.table key c.args.first 0 c.args.count) m _ _ _ _
    c.of_access.ensures c.and.ensures c.check-met.ensures c.in_ok-functions.ensures.met) c.in-Some.is
    (functions-read c.args.question Access.Fetch c.args.first c.args.count (λ key. search_met p c.args.table key c.args.first 0 c.args.count) m
    c.args.found.now.items c.decide.new.found.items _
    (c.in_ok-decide.ensures ∙ ap (λ (ps : List Place). with_decided c.args.question (Psw ∷ ps) c.args.found.now.items) c.keys_looked_at-keys.ensures)
    c.in_ok-functions.ensures.read)

pub returns-in_ok-push_searched-in-None : goal.returns-in_ok-push_searched-in-None
returns-in_ok-push_searched-in-None c next =
    let m = seen c.args.machine.now.whole
    in let p = profile_of c.args.machine.now.whole.core
    in done-walked c.args.question (search_conditions_read p c.args.first c.args.table c.args.count) program_code
    (searched_row c.args.first c.args.table c.args.count next) m c.args.found.now.items _ _ _
    (functions-code Access.Fetch c.args.first c.args.count (λ key. search_met p c.args.table key c.args.first 0 c.args.count) m _ _ _ _
    c.of_access.ensures c.and.ensures c.check-met.ensures c.in_ok-functions.ensures.met) c.in-None.is
    (functions-read c.args.question Access.Fetch c.args.first c.args.count (λ key. search_met p c.args.table key c.args.first 0 c.args.count) m
    c.args.found.now.items c.decide.new.found.items _
    (c.in_ok-decide.ensures ∙ ap (λ (ps : List Place). with_decided c.args.question (Psw ∷ ps) c.args.found.now.items) c.keys_looked_at-keys.ensures)
    c.in_ok-functions.ensures.read)
    (c.in_ok-push_searched-in-None.ensures next)
