use Rattle.std.proofs.Common.{◌∙◌}
use Rattle.s360_store.specs.declared.protection.Access.{Access}
use Rattle.s360_fixed.specs.ProgramCodes.{program_code}
use Rattle.s360_logic.specs.LeftToRight.{field_at}
use Rattle.s360_machine.specs.Machine.{seen}
use Rattle.s360_footprint.specs.Altering.{altering_row}
use Rattle.s360_footprint.specs.LeftToRightRows.{code_altering, comparison_read, fields_read}
use Rattle.s360_footprint.specs.OperandReadings.{profile_of}
use Rattle.s360_source.proofs.FieldLemmas.{comparison-places}
use Rattle.s360_source.proofs.StatusLemmas.{code-walked}
use Rattle.s360_source.proofs.WalkLemmas.{done-walked, refused-walked}
use Rattle.s360_source.proofs.fields.push_compare.Goals as goal

pub returns-in-Some : goal.returns-in-Some
returns-in-Some c next =
    refused-walked c.args.question
    (fields_read (profile_of c.args.machine.now.whole.core) Access.Fetch (field_at c.args.first c.args.count)
    (field_at c.args.second c.args.count)) program_code
    (altering_row (code_altering (comparison_read c.args.first c.args.second c.args.count) next)) (seen c.args.machine.now.whole) c.args.found.now.items _ _ _
    c.in_ok-push_fields.ensures.code c.in-Some.is c.in_ok-push_fields.ensures.read

pub returns-in_ok-push_altered-in-None : goal.returns-in_ok-push_altered-in-None
returns-in_ok-push_altered-in-None c next =
    done-walked c.args.question
    (fields_read (profile_of c.args.machine.now.whole.core) Access.Fetch (field_at c.args.first c.args.count)
    (field_at c.args.second c.args.count)) program_code
    (altering_row (code_altering (comparison_read c.args.first c.args.second c.args.count) next)) (seen c.args.machine.now.whole) c.args.found.now.items _ _ _
    c.in_ok-push_fields.ensures.code c.in-None.is c.in_ok-push_fields.ensures.read
    (c.in_ok-push_altered-in-None.ensures
    ∙ code-walked c.args.question (comparison_read c.args.first c.args.second c.args.count) next (seen c.args.machine.now.whole) c.push_fields.new.found.items _
    (comparison-places c.args.first c.args.second c.args.count (seen c.args.machine.now.whole)))
