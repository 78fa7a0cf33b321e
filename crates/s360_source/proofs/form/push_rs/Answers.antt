use Rattle.std.proofs.Common.{◌∙◌, ap, None}
use Rattle.s360_fixed.specs.declared.row.OperationRow.{OperationRow}
use Rattle.s360_fixed.specs.Rows.{row_of}
use Rattle.s360_machine.specs.Machine.{seen}
use Rattle.s360_footprint.specs.FormRows.{first_row, rs_row}
use Rattle.s360_footprint.specs.OperandReadings.{address_read, profile_of}
use Rattle.s360_footprint.specs.RegisterRows.{index_row, pair_shift_row, shift_row}
use Rattle.s360_footprint.specs.StoringRows.{load_multiple_row, store_multiple_row}
use Rattle.s360_store.specs.declared.protection.Access.{Access}
use Rattle.s360_source.specs.Several.{several_row}
use Rattle.s360_source.specs.Walks.{walked}
use Rattle.s360_source.proofs.FormLemmas.{at-address, by-row}
use Rattle.s360_source.proofs.form.push_rs.Goals as goal

pub returns-in_ok-push_shift-in-Some-Shift : goal.returns-in_ok-push_shift-in-Some-Shift
returns-in_ok-push_shift-in-Some-Shift c next length =
    let m = seen c.args.machine.now.whole
    in let p = profile_of c.args.machine.now.whole.core
    in by-row c.args.question (λ o. first_row (rs_row p c.args.r1 c.args.r3 (address_read 0 c.args.b2 c.args.d2) next o) None None) m c.args.found.now.items _
    (row_of c.args.operation) _ _ (OperationRow.Shift c.in-Some-Shift.shift) c.row.ensures c.in-Some-Shift.is c.in-Some-Shift.field-0-is
    (at-address c.args.question 0 c.args.b2 c.args.d2 (λ address. shift_row c.in-Some-Shift.shift c.args.r1 address next) m c.args.found.now.items _ _ _
    c.in_ok-push_based-in-Some-Shift.ensures.address c.in_ok-push_based-in-Some-Shift.ensures.read
    (c.in_ok-push_shift-in-Some-Shift.ensures _ next))

pub returns-in_ok-push_pair_shift-in-Some-ShiftPair : goal.returns-in_ok-push_pair_shift-in-Some-ShiftPair
returns-in_ok-push_pair_shift-in-Some-ShiftPair c next length =
    let m = seen c.args.machine.now.whole
    in let p = profile_of c.args.machine.now.whole.core
    in by-row c.args.question (λ o. first_row (rs_row p c.args.r1 c.args.r3 (address_read 0 c.args.b2 c.args.d2) next o) None None) m c.args.found.now.items _
    (row_of c.args.operation) _ _ (OperationRow.ShiftPair c.in-Some-ShiftPair.shift) c.row.ensures c.in-Some-ShiftPair.is c.in-Some-ShiftPair.field-0-is
    (at-address c.args.question 0 c.args.b2 c.args.d2 (λ address. pair_shift_row c.in-Some-ShiftPair.shift c.args.r1 address next) m c.args.found.now.items _
    _ _
    c.in_ok-push_based-in-Some-ShiftPair.ensures.address c.in_ok-push_based-in-Some-ShiftPair.ensures.read
    (c.in_ok-push_pair_shift-in-Some-ShiftPair.ensures _ next))

pub returns-in_ok-push_index-in-Some-BranchOnIndex : goal.returns-in_ok-push_index-in-Some-BranchOnIndex
returns-in_ok-push_index-in-Some-BranchOnIndex c next length =
    let m = seen c.args.machine.now.whole
    in let p = profile_of c.args.machine.now.whole.core
    in by-row c.args.question (λ o. first_row (rs_row p c.args.r1 c.args.r3 (address_read 0 c.args.b2 c.args.d2) next o) None None) m c.args.found.now.items _
    (row_of c.args.operation) _ _ (OperationRow.BranchOnIndex c.in-Some-BranchOnIndex.field-0-0) c.row.ensures c.in-Some-BranchOnIndex.is
    c.in-Some-BranchOnIndex.field-0-is
    (at-address c.args.question 0 c.args.b2 c.args.d2 (λ address. index_row c.in-Some-BranchOnIndex.field-0-0 c.args.r1 c.args.r3 address next) m
    c.args.found.now.items _ _ _
    c.in_ok-push_based-in-Some-BranchOnIndex.ensures.address c.in_ok-push_based-in-Some-BranchOnIndex.ensures.read
    (c.in_ok-push_index-in-Some-BranchOnIndex.ensures c.in-Some-BranchOnIndex.field-0-0 _ next))

pub returns-in_ok-push_several-in-Some-StoreRegisters : goal.returns-in_ok-push_several-in-Some-StoreRegisters
returns-in_ok-push_several-in-Some-StoreRegisters c next length =
    let m = seen c.args.machine.now.whole
    in let p = profile_of c.args.machine.now.whole.core
    in by-row c.args.question (λ o. first_row (rs_row p c.args.r1 c.args.r3 (address_read 0 c.args.b2 c.args.d2) next o) None None) m c.args.found.now.items _
    (row_of c.args.operation) _ _ OperationRow.StoreRegisters c.row.ensures c.in-Some-StoreRegisters.is c.in-Some-StoreRegisters.field-0-is
    (at-address c.args.question 0 c.args.b2 c.args.d2 (λ address. store_multiple_row p c.args.r1 c.args.r3 address next) m c.args.found.now.items _ _ _
    c.in_ok-address-in-Some-StoreRegisters.ensures.address c.in_ok-address-in-Some-StoreRegisters.ensures.read
    (c.in_ok-push_several-in-Some-StoreRegisters.ensures next
    ∙ ap (λ n. walked c.args.question (several_row p c.args.r1 n c.in_ok-address-in-Some-StoreRegisters.address Access.Store next) m
    c.push_based.new.found.items)
    c.register_count-count.ensures.count))

pub returns-in_ok-push_several-in-Some-LoadRegisters : goal.returns-in_ok-push_several-in-Some-LoadRegisters
returns-in_ok-push_several-in-Some-LoadRegisters c next length =
    let m = seen c.args.machine.now.whole
    in let p = profile_of c.args.machine.now.whole.core
    in by-row c.args.question (λ o. first_row (rs_row p c.args.r1 c.args.r3 (address_read 0 c.args.b2 c.args.d2) next o) None None) m c.args.found.now.items _
    (row_of c.args.operation) _ _ OperationRow.LoadRegisters c.row.ensures c.in-Some-LoadRegisters.is c.in-Some-LoadRegisters.field-0-is
    (at-address c.args.question 0 c.args.b2 c.args.d2 (λ address. load_multiple_row p c.args.r1 c.args.r3 address next) m c.args.found.now.items _ _ _
    c.in_ok-address-in-Some-LoadRegisters.ensures.address c.in_ok-address-in-Some-LoadRegisters.ensures.read
    (c.in_ok-push_several-in-Some-LoadRegisters.ensures next
    ∙ ap (λ n. walked c.args.question (several_row p c.args.r1 n c.in_ok-address-in-Some-LoadRegisters.address Access.Fetch next) m
    c.push_based-in-Some-LoadRegisters.new.found.items)
    c.register_count-count-in-Some-LoadRegisters.ensures.count))
