use Rattle.std.proofs.Common.{None, refl}
use Rattle.s360_logic.specs.Rows.{immediate_row_of, storage_status_of}
use Rattle.s360_machine.specs.Machine.{seen}
use Rattle.s360_footprint.specs.FormRows.{first_row, immediate, of_storage}
use Rattle.s360_footprint.specs.OperandReadings.{address_read, profile_of}
use Rattle.s360_footprint.specs.StatusRows.{immediate_row, storage_status_row}
use Rattle.s360_source.proofs.FormLemmas.{at-address, by-row, without-row}
use Rattle.s360_source.proofs.form.push_si.Goals as goal

pub returns-in_ok-push_immediate-in-Some-default : goal.returns-in_ok-push_immediate-in-Some-default
returns-in_ok-push_immediate-in-Some-default c i2 next length =
    let m = seen c.args.machine.now.whole
    in let p = profile_of c.args.machine.now.whole.core
    in by-row c.args.question (λ o. first_row None (immediate p i2 (address_read 0 c.args.b1 c.args.d1) next o)
    (of_storage p (address_read 0 c.args.b1 c.args.d1) next (storage_status_of c.args.operation))) m c.args.found.now.items _
    (immediate_row_of c.args.operation) _ _ _ c.immediate_row_of.ensures c.in-Some-default.is-0 refl
    (at-address c.args.question 0 c.args.b1 c.args.d1 (λ address. immediate_row p c.in-Some-default.row i2 address next) m c.args.found.now.items _ _ _
    c.in_ok-address-in-Some-default.ensures.address c.in_ok-address-in-Some-default.ensures.read (c.in_ok-push_immediate-in-Some-default.ensures i2 next))

pub returns-in_ok-push_storage_status-in-None-Some : goal.returns-in_ok-push_storage_status-in-None-Some
returns-in_ok-push_storage_status-in-None-Some c i2 next length =
    let m = seen c.args.machine.now.whole
    in let p = profile_of c.args.machine.now.whole.core
    in without-row c.args.question (λ o. first_row None (immediate p i2 (address_read 0 c.args.b1 c.args.d1) next o)
    (of_storage p (address_read 0 c.args.b1 c.args.d1) next (storage_status_of c.args.operation))) m c.args.found.now.items _
    (immediate_row_of c.args.operation) _ c.immediate_row_of.ensures c.in-None-Some.is-0
    (by-row c.args.question (λ o. first_row None None (of_storage p (address_read 0 c.args.b1 c.args.d1) next o)) m c.args.found.now.items _
    (storage_status_of c.args.operation) _ _ _ c.storage_status_of.ensures c.in-None-Some.is-1 refl
    (at-address c.args.question 0 c.args.b1 c.args.d1 (λ address. storage_status_row p c.in-None-Some.row address next) m c.args.found.now.items _ _ _
    c.in_ok-address-in-None-Some.ensures.address c.in_ok-address-in-None-Some.ensures.read (c.in_ok-push_storage_status-in-None-Some.ensures next)))
