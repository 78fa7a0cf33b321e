use Rattle.std.proofs.Common.{◌∙◌}
use Rattle.s360_model.specs.Psw.{current_psw}
use Rattle.s360_store.specs.declared.protection.Access.{Access}
use Rattle.s360_fixed.specs.ProgramCodes.{program_code}
use Rattle.s360_machine.specs.Machine.{seen}
use Rattle.s360_footprint.specs.OperandReadings.{conditions_read, number_read, profile_of}
use Rattle.s360_footprint.specs.Readings.{bind, done}
use Rattle.s360_footprint.specs.StatusRows.{privileged_read, psw_row}
use Rattle.s360_source.proofs.ReadingPlaces.{mapped, number-places}
use Rattle.s360_source.proofs.StatusLemmas.{psw-walked}
use Rattle.s360_source.proofs.WalkLemmas.{done-walked, refused-walked}
use Rattle.s360_source.proofs.status.push_loaded_psw.Goals as goal

pub returns-in-Some : goal.returns-in-Some
returns-in-Some c next =
    refused-walked c.args.question (privileged_read (conditions_read (profile_of c.args.machine.now.whole.core) c.args.address 8 8 Access.Fetch)) program_code
    (psw_row (bind (number_read c.args.address 8) (λ doubleword. done (current_psw doubleword))))
    (seen c.args.machine.now.whole) c.args.found.now.items _ _ _
    c.in_ok-push_privileged.ensures.code c.in-Some.is c.in_ok-push_privileged.ensures.read

pub returns-in_ok-store-in-None : goal.returns-in_ok-store-in-None
returns-in_ok-store-in-None c next =
    done-walked c.args.question (privileged_read (conditions_read (profile_of c.args.machine.now.whole.core) c.args.address 8 8 Access.Fetch)) program_code
    (psw_row (bind (number_read c.args.address 8) (λ doubleword. done (current_psw doubleword))))
    (seen c.args.machine.now.whole) c.args.found.now.items _ _ _
    c.in_ok-push_privileged.ensures.code c.in-None.is c.in_ok-push_privileged.ensures.read
    (c.in_ok-store-in-None.ensures
    ∙ psw-walked c.args.question (bind (number_read c.args.address 8) (λ doubleword. done (current_psw doubleword)))
    (seen c.args.machine.now.whole) c.push_privileged.new.found.items _
    (mapped (number_read c.args.address 8) current_psw (seen c.args.machine.now.whole) ∙ number-places c.args.address 8 (seen c.args.machine.now.whole)))
