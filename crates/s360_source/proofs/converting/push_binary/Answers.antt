use Rattle.std.proofs.Common.{◌∙◌, [], ◌∷◌, ap, sym}
use Rattle.s360_store.specs.declared.place.Place.TheVariants.{Psw, Register}
use Rattle.s360_store.specs.declared.protection.Access.{Access}
use Rattle.s360_store.specs.Spans.{byte_places}
use Rattle.s360_fixed.specs.ProgramCodes.{program_code}
use Rattle.s360_machine.specs.Machine.{seen}
use Rattle.s360_footprint.specs.OperandReadings.{conditions_read, profile_of}
use Rattle.s360_footprint.specs.Readings.{bind}
use Rattle.s360_footprint.specs.StatusRows.{binary_made, binary_read}
use Rattle.s360_source.specs.Walks.{with_store}
use Rattle.s360_source.proofs.StatusLemmas.{binary-walked}
use Rattle.s360_source.proofs.WalkLemmas.{done-walked, refused-walked}
use Rattle.s360_source.proofs.converting.push_binary.Goals as goal

pub returns-in-Some : goal.returns-in-Some
returns-in-Some c next =
    refused-walked c.args.question (conditions_read (profile_of c.args.machine.now.whole.core) c.args.address 8 8 Access.Fetch) program_code
    (bind (binary_read c.args.address) (binary_made (binary_read c.args.address) c.args.r1 next)) (seen c.args.machine.now.whole) c.args.found.now.items _ _ _
    c.in_ok-push_conditions.ensures.code c.in-Some.is c.in_ok-push_conditions.ensures.read

pub returns-then-not-is_packed : goal.returns-then-not-is_packed
returns-then-not-is_packed c next =
    done-walked c.args.question (conditions_read (profile_of c.args.machine.now.whole.core) c.args.address 8 8 Access.Fetch) program_code
    (bind (binary_read c.args.address) (binary_made (binary_read c.args.address) c.args.r1 next)) (seen c.args.machine.now.whole) c.args.found.now.items _ _ _
    c.in_ok-push_conditions.ensures.code c.in-None.is c.in_ok-push_conditions.ensures.read
    (binary-walked c.args.question c.args.r1 c.args.address next (seen c.args.machine.now.whole) c.push_conditions.new.found.items _ _
    (sym c.is_packed.ensures ∙ c.if-not-is_packed.true) c.in_ok-decide-in-None.ensures)

pub returns-in_ok-store_psw-in-None : goal.returns-in_ok-store_psw-in-None
returns-in_ok-store_psw-in-None c next =
    done-walked c.args.question (conditions_read (profile_of c.args.machine.now.whole.core) c.args.address 8 8 Access.Fetch) program_code
    (bind (binary_read c.args.address) (binary_made (binary_read c.args.address) c.args.r1 next)) (seen c.args.machine.now.whole) c.args.found.now.items _ _ _
    c.in_ok-push_conditions.ensures.code c.in-None.is c.in_ok-push_conditions.ensures.read
    (c.in_ok-store_psw-in-None.ensures ∙ ap (with_store c.args.question Psw (Psw ∷ [])) c.in_ok-store-in-None.ensures
    ∙ ap (λ r. with_store c.args.question Psw (Psw ∷ []) (with_store c.args.question (Register r) (byte_places c.args.address 8) c.decide.new.found.items))
    c.number.ensures.value
    ∙ binary-walked c.args.question c.args.r1 c.args.address next (seen c.args.machine.now.whole) c.push_conditions.new.found.items _ _
    (sym c.is_packed.ensures ∙ c.if-not-is_packed.false) c.in_ok-decide-in-None.ensures)
