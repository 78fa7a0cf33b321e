use Rattle.std.proofs.Common.{◌∙◌, ◌*◌, [], ◌∷◌, None, ap, refl}
use Rattle.s360_store.specs.declared.place.Place.TheVariants.{Psw}
use Rattle.s360_fixed.specs.ProgramCodes.{program_code}
use Rattle.s360_machine.specs.Machine.{seen}
use Rattle.s360_footprint.specs.Altering.{completed_row}
use Rattle.s360_footprint.specs.OperandReadings.{conditions_read, profile_of}
use Rattle.s360_footprint.specs.Readings.{done}
use Rattle.s360_source.specs.Several.{moved_registers}
use Rattle.s360_source.specs.Walks.{with_store}
use Rattle.s360_source.proofs.StoringLemmas.{stored-walked}
use Rattle.s360_source.proofs.WalkLemmas.{done-walked, refused-walked}
use Rattle.s360_source.proofs.several.push_several.Goals as goal

pub returns-in-Some : goal.returns-in-Some
returns-in-Some c next =
    refused-walked c.args.question (conditions_read (profile_of c.args.machine.now.whole.core) c.args.address 4 (4 * c.args.count) c.args.kind) program_code
    (completed_row (moved_registers c.args.kind c.args.r1 c.args.address c.args.count) next) (seen c.args.machine.now.whole) c.args.found.now.items _ _ _
    c.in_ok-push_conditions.ensures.code c.in-Some.is c.in_ok-push_conditions.ensures.read

pub returns-in_ok-store_psw-in-None : goal.returns-in_ok-store_psw-in-None
returns-in_ok-store_psw-in-None c next =
    done-walked c.args.question (conditions_read (profile_of c.args.machine.now.whole.core) c.args.address 4 (4 * c.args.count) c.args.kind) program_code
    (completed_row (moved_registers c.args.kind c.args.r1 c.args.address c.args.count) next) (seen c.args.machine.now.whole) c.args.found.now.items _ _ _
    c.in_ok-push_conditions.ensures.code c.in-None.is c.in_ok-push_conditions.ensures.read
    (c.in_ok-store_psw-in-None.ensures
    ∙ ap (with_store c.args.question Psw (Psw ∷ [])) (c.in_ok-push_moved-in-None.ensures (seen c.args.machine.now.whole))
    ∙ stored-walked c.args.question (moved_registers c.args.kind c.args.r1 c.args.address c.args.count) (done None) next
    (seen c.args.machine.now.whole) _ [] refl)
