use Rattle.std.proofs.Common.{◌∙◌, [], ◌∷◌, None, ap, refl}
use Rattle.s360_store.specs.declared.place.Place.TheVariants.{Psw}
use Rattle.s360_store.specs.declared.protection.Access.{Access}
use Rattle.s360_fixed.specs.ProgramCodes.{program_code}
use Rattle.s360_machine.specs.Machine.{seen}
use Rattle.s360_footprint.specs.Altering.{completed_row}
use Rattle.s360_footprint.specs.DigitRows.{DigitOperands, digit_stores}
use Rattle.s360_footprint.specs.LeftToRightRows.{fields_read}
use Rattle.s360_footprint.specs.OperandReadings.{profile_of}
use Rattle.s360_footprint.specs.Readings.{done}
use Rattle.s360_source.specs.Fields.{field_of}
use Rattle.s360_source.specs.Walks.{with_store}
use Rattle.s360_source.proofs.StoringLemmas.{stored-walked}
use Rattle.s360_source.proofs.WalkLemmas.{done-walked, refused-walked}
use Rattle.s360_source.proofs.digits.push_digits.Goals as goal

pub returns-in-Some : goal.returns-in-Some
returns-in-Some c next =
    let d : DigitOperands = record { row = c.args.row; first = field_of c.args.first.now; second = field_of c.args.second.now }
    in refused-walked c.args.question
    (fields_read (profile_of c.args.machine.now.whole.core) Access.Store (field_of c.args.first.now) (field_of c.args.second.now)) program_code
    (completed_row (digit_stores d c.args.first.now.count) next) (seen c.args.machine.now.whole) c.args.found.now.items _ _ _
    c.in_ok-push_fields.ensures.code c.in-Some.is c.in_ok-push_fields.ensures.read

pub returns-in_ok-store_psw-in-None : goal.returns-in_ok-store_psw-in-None
returns-in_ok-store_psw-in-None c next =
    let d : DigitOperands = record { row = c.args.row; first = field_of c.args.first.now; second = field_of c.args.second.now }
    in let m = seen c.args.machine.now.whole
    in done-walked c.args.question
    (fields_read (profile_of c.args.machine.now.whole.core) Access.Store (field_of c.args.first.now) (field_of c.args.second.now)) program_code
    (completed_row (digit_stores d c.args.first.now.count) next) m c.args.found.now.items _ _ _
    c.in_ok-push_fields.ensures.code c.in-None.is c.in_ok-push_fields.ensures.read
    (c.in_ok-store_psw-in-None.ensures ∙ ap (with_store c.args.question Psw (Psw ∷ [])) (c.in_ok-push_stores-in-None.ensures m)
    ∙ stored-walked c.args.question (digit_stores d c.args.first.now.count) (done None) next m c.push_fields.new.found.items [] refl)
