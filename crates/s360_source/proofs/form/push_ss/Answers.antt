use Rattle.std.proofs.Common.{None, refl}
use Rattle.s360_logic.specs.Rows.{storage_row_of}
use Rattle.s360_machine.specs.Machine.{seen}
use Rattle.s360_footprint.specs.FormRows.{first_row, in_storage, storage_row}
use Rattle.s360_footprint.specs.OperandReadings.{address_read, profile_of}
use Rattle.s360_footprint.specs.Readings.{bind}
use Rattle.s360_source.proofs.FormLemmas.{at-address, by-row}
use Rattle.s360_source.proofs.form.push_ss.Goals as goal

pub returns-in_ok-push_storage-in-Some : goal.returns-in_ok-push_storage-in-Some
returns-in_ok-push_storage-in-Some c next length =
    let m = seen c.args.machine.now.whole
    in let p = profile_of c.args.machine.now.whole.core
    in let other = address_read 0 c.args.second.0 c.args.second.1
    in by-row c.args.question (λ o. first_row None (in_storage p c.args.l (address_read 0 c.args.first.0 c.args.first.1) other next o) None) m
    c.args.found.now.items _ (storage_row_of c.args.operation) _ _ _ c.storage_row_of.ensures c.in-Some.is refl
    (at-address c.args.question 0 c.args.first.0 c.args.first.1 (λ a. bind other (λ b. storage_row p c.in-Some.row c.args.l a b next)) m
    c.args.found.now.items _ _ _
    c.in_ok-address-in-Some.ensures.address c.in_ok-address-in-Some.ensures.read
    (at-address c.args.question 0 c.args.second.0 c.args.second.1 (λ b. storage_row p c.in-Some.row c.args.l c.in_ok-address-in-Some.address b next) m _ _ _ _
    c.in_ok-other-in-Some.ensures.address c.in_ok-other-in-Some.ensures.read (c.in_ok-push_storage-in-Some.ensures next)))
