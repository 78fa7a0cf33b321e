use Rattle.std.proofs.Common.{◌∙◌, ap, sym}
use Rattle.s360_store.specs.declared.protection.Access.{Access}
use Rattle.s360_fixed.specs.ProgramCodes.{program_code}
use Rattle.s360_machine.specs.Machine.{seen}
use Rattle.s360_footprint.specs.Altering.{completed_row}
use Rattle.s360_footprint.specs.OperandReadings.{conditions_read, profile_of}
use Rattle.s360_footprint.specs.StoringRows.{byte_stores}
use Rattle.s360_source.specs.Walks.{store_walk}
use Rattle.s360_source.proofs.WalkLemmas.{completed-bytes, done-walked, refused-walked}
use Rattle.s360_source.proofs.storing.push_bytes_row.Goals as goal

pub returns-in-Some : goal.returns-in-Some
returns-in-Some c bytes next e =
    refused-walked c.args.question (conditions_read (profile_of c.args.machine.now.whole.core) c.args.address c.args.count c.args.count Access.Store)
    program_code
    (completed_row (byte_stores c.args.address bytes 0 c.args.count) next) (seen c.args.machine.now.whole) c.args.found.now.items _ _ _
    c.in_ok-push_conditions.ensures.code c.in-Some.is c.in_ok-push_conditions.ensures.read

pub returns-in_ok-push_stored_bytes-in-None : goal.returns-in_ok-push_stored_bytes-in-None
returns-in_ok-push_stored_bytes-in-None c bytes next e =
    done-walked c.args.question (conditions_read (profile_of c.args.machine.now.whole.core) c.args.address c.args.count c.args.count Access.Store) program_code
    (completed_row (byte_stores c.args.address bytes 0 c.args.count) next) (seen c.args.machine.now.whole) c.args.found.now.items _ _ _
    c.in_ok-push_conditions.ensures.code c.in-None.is c.in_ok-push_conditions.ensures.read
    (c.in_ok-push_stored_bytes-in-None.ensures
    ∙ ap (λ ps. store_walk c.args.question c.args.address c.args.count ps c.push_conditions.new.found.items) (sym e)
    ∙ sym (completed-bytes c.args.question bytes c.args.address c.args.count next (seen c.args.machine.now.whole) c.push_conditions.new.found.items))
