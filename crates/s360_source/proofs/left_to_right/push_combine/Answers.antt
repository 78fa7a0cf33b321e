use Rattle.std.proofs.Common.{◌∙◌}
use Rattle.s360_store.specs.declared.protection.Access.{Access}
use Rattle.s360_fixed.specs.ProgramCodes.{program_code}
use Rattle.s360_logic.specs.LeftToRight.{field_at}
use Rattle.s360_machine.specs.Machine.{seen}
use Rattle.s360_footprint.specs.LeftToRightRows.{combining, fields_read, made_stores, result_code_read, stored_row}
use Rattle.s360_footprint.specs.OperandReadings.{profile_of}
use Rattle.s360_source.proofs.MadeLemmas.{combine-walked}
use Rattle.s360_source.proofs.WalkLemmas.{done-walked, refused-walked}
use Rattle.s360_source.proofs.left_to_right.push_combine.Goals as goal

pub returns-in-Some : goal.returns-in-Some
returns-in-Some c next =
    let making = combining c.args.combination c.args.first c.args.second
    in refused-walked c.args.question
    (fields_read (profile_of c.args.machine.now.whole.core) Access.Store (field_at c.args.first c.args.count)
    (field_at c.args.second c.args.count)) program_code
    (stored_row (made_stores making c.args.first c.args.count) (result_code_read c.args.combination making c.args.first c.args.count) next)
    (seen c.args.machine.now.whole) c.args.found.now.items _ _ _ c.in_ok-push_fields.ensures.code c.in-Some.is c.in_ok-push_fields.ensures.read

pub returns-in_ok-push_made-in-None : goal.returns-in_ok-push_made-in-None
returns-in_ok-push_made-in-None c next =
    let making = combining c.args.combination c.args.first c.args.second
    in done-walked c.args.question
    (fields_read (profile_of c.args.machine.now.whole.core) Access.Store (field_at c.args.first c.args.count)
    (field_at c.args.second c.args.count)) program_code
    (stored_row (made_stores making c.args.first c.args.count) (result_code_read c.args.combination making c.args.first c.args.count) next)
    (seen c.args.machine.now.whole) c.args.found.now.items _ _ _ c.in_ok-push_fields.ensures.code c.in-None.is c.in_ok-push_fields.ensures.read
    (c.in_ok-push_made-in-None.ensures
    ∙ combine-walked c.args.question c.args.combination c.args.first c.args.second c.args.count next
    (seen c.args.machine.now.whole) c.push_fields.new.found.items)
