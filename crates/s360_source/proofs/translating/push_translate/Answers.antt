use Rattle.std.proofs.Common.{◌∙◌, ◌∷◌, None, List, ap}
use Rattle.s360_store.specs.declared.place.Place.{Place}
use Rattle.s360_store.specs.declared.place.Place.TheVariants.{Psw}
use Rattle.s360_store.specs.declared.protection.Access.{Access}
use Rattle.s360_fixed.specs.ProgramCodes.{program_code}
use Rattle.s360_machine.specs.Machine.{seen}
use Rattle.s360_footprint.specs.LeftToRightRows.{made_stores, stored_row, translate_conditions_read, translate_met, translating}
use Rattle.s360_footprint.specs.OperandReadings.{profile_of}
use Rattle.s360_footprint.specs.Readings.{done}
use Rattle.s360_source.specs.Walks.{with_decided}
use Rattle.s360_source.proofs.MadeLemmas.{translate-walked}
use Rattle.s360_source.proofs.TranslateLemmas.{functions-code, functions-read}
use Rattle.s360_source.proofs.WalkLemmas.{done-walked, refused-walked}
use Rattle.s360_source.proofs.translating.push_translate.Goals as goal

pub returns-in-Some : goal.returns-in-Some
returns-in-Some c next =
    let m = seen c.args.machine.now.whole
    in let p = profile_of c.args.machine.now.whole.core
    in refused-walked c.args.question (translate_conditions_read p c.args.first c.args.table c.args.count) program_code
    (stored_row (made_stores (translating c.args.table c.args.first) c.args.first c.args.count) (done None) next) m c.args.found.now.items _ _ _
    (functions-code Access.Store c.args.first c.args.count (λ key. translate_met p c.args.table key c.args.first 0 c.args.count) m _ _ _ _
    c.of_access.ensures c.and.ensures c.check-met.ensures c.in_ok-functions.ensures.met) c.in-Some.is
    (functions-read c.args.question Access.Store c.args.first c.args.count (λ key. translate_met p c.args.table key c.args.first 0 c.args.count) m
    c.args.found.now.items c.decide.new.found.items _
    (c.in_ok-decide.ensures ∙ ap (λ (ps : List Place). with_decided c.args.question (Psw ∷ ps) c.args.found.now.items) c.keys_looked_at-keys.ensures)
    c.in_ok-functions.ensures.read)

pub returns-in_ok-push_made-in-None : goal.returns-in_ok-push_made-in-None
returns-in_ok-push_made-in-None c next =
    let m = seen c.args.machine.now.whole
    in let p = profile_of c.args.machine.now.whole.core
    in done-walked c.args.question (translate_conditions_read p c.args.first c.args.table c.args.count) program_code
    (stored_row (made_stores (translating c.args.table c.args.first) c.args.first c.args.count) (done None) next) m c.args.found.now.items _ _ _
    (functions-code Access.Store c.args.first c.args.count (λ key. translate_met p c.args.table key c.args.first 0 c.args.count) m _ _ _ _
    c.of_access.ensures c.and.ensures c.check-met.ensures c.in_ok-functions.ensures.met) c.in-None.is
    (functions-read c.args.question Access.Store c.args.first c.args.count (λ key. translate_met p c.args.table key c.args.first 0 c.args.count) m
    c.args.found.now.items c.decide.new.found.items _
    (c.in_ok-decide.ensures ∙ ap (λ (ps : List Place). with_decided c.args.question (Psw ∷ ps) c.args.found.now.items) c.keys_looked_at-keys.ensures)
    c.in_ok-functions.ensures.read)
    (c.in_ok-push_made-in-None.ensures
    ∙ translate-walked c.args.question c.args.first c.args.table c.args.count next m c.push_functions_met.new.found.items)
