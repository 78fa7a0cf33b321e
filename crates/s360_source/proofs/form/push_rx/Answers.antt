use Rattle.std.proofs.Common.{◌∙◌, [], Some, None, ap, refl, sym}
use Rattle.s360_fixed.specs.declared.{row.OperationRow.OperationRow, second_operand.SecondOperand.SecondOperand, second_operand.Width.Width}
use Rattle.s360_fixed.specs.Rows.{row_of}
use Rattle.s360_logic.specs.Rows.{conversion_of}
use Rattle.s360_machine.specs.Machine.{seen}
use Rattle.s360_footprint.specs.FormRows.{converting, first_row, rx_row}
use Rattle.s360_footprint.specs.OperandReadings.{OperandReading, address_read, profile_of, second_operand_read}
use Rattle.s360_footprint.specs.Readings.{done}
use Rattle.s360_footprint.specs.RegisterRows.{branch_row, combination_row, pair_row}
use Rattle.s360_footprint.specs.StatusRows.{conversion_row}
use Rattle.s360_footprint.specs.StoringRows.{store_row}
use Rattle.s360_source.specs.Walks.{walked}
use Rattle.s360_source.proofs.FormLemmas.{at-address, by-row, conversion-alone, without-row}
use Rattle.s360_source.proofs.RegisterLemmas.{branch-walked}
use Rattle.s360_source.proofs.form.push_rx.Goals as goal

pub returns-in_ok-push_combined-in-Some-Combine : goal.returns-in_ok-push_combined-in-Some-Combine
returns-in_ok-push_combined-in-Some-Combine c next length =
    let m = seen c.args.machine.now.whole
    in let p = profile_of c.args.machine.now.whole.core
    in let parts = address_read c.args.x2 c.args.b2 c.args.d2
    in by-row c.args.question (λ o. first_row (rx_row p c.args.r1 parts next length o) (converting p c.args.r1 parts next
    (conversion_of c.args.operation)) None) m
    c.args.found.now.items _ (row_of c.args.operation) _ _ (OperationRow.Combine c.in-Some-Combine.second c.in-Some-Combine.combination) c.row.ensures
    c.in-Some-Combine.is c.in-Some-Combine.field-0-is
    (at-address c.args.question c.args.x2 c.args.b2 c.args.d2 (λ address. combination_row c.in-Some-Combine.combination c.args.r1
    (second_operand_read p c.in-Some-Combine.second parts address) next) m c.args.found.now.items _ _ _
    c.in_ok-address-in-Some-Combine.ensures.address c.in_ok-address-in-Some-Combine.ensures.read
    (c.in_ok-push_combined-in-Some-Combine.ensures next
    ∙ ap (λ (o : OperandReading). walked c.args.question (combination_row c.in-Some-Combine.combination c.args.r1 o next) m c.push_address.new.found.items)
    (c.indexed-second.ensures p)))

pub returns-in_ok-push_pair-in-Some-CombinePair : goal.returns-in_ok-push_pair-in-Some-CombinePair
returns-in_ok-push_pair-in-Some-CombinePair c next length =
    let m = seen c.args.machine.now.whole
    in let p = profile_of c.args.machine.now.whole.core
    in let parts = address_read c.args.x2 c.args.b2 c.args.d2
    in by-row c.args.question (λ o. first_row (rx_row p c.args.r1 parts next length o) (converting p c.args.r1 parts next
    (conversion_of c.args.operation)) None) m
    c.args.found.now.items _ (row_of c.args.operation) _ _ (OperationRow.CombinePair c.in-Some-CombinePair.pair) c.row.ensures c.in-Some-CombinePair.is
    c.in-Some-CombinePair.field-0-is
    (at-address c.args.question c.args.x2 c.args.b2 c.args.d2 (λ address. pair_row c.in-Some-CombinePair.pair c.args.r1 (second_operand_read p
    (SecondOperand.InStorage Width.Word) parts address) next) m c.args.found.now.items _ _ _
    c.in_ok-address-in-Some-CombinePair.ensures.address c.in_ok-address-in-Some-CombinePair.ensures.read
    (c.in_ok-push_pair-in-Some-CombinePair.ensures next))

pub returns-in_ok-push_branch-in-Some-Branch : goal.returns-in_ok-push_branch-in-Some-Branch
returns-in_ok-push_branch-in-Some-Branch c next length =
    let m = seen c.args.machine.now.whole
    in let p = profile_of c.args.machine.now.whole.core
    in let parts = address_read c.args.x2 c.args.b2 c.args.d2
    in by-row c.args.question (λ o. first_row (rx_row p c.args.r1 parts next length o) (converting p c.args.r1 parts next
    (conversion_of c.args.operation)) None) m
    c.args.found.now.items _ (row_of c.args.operation) _ _ (OperationRow.Branch c.in-Some-Branch.branch) c.row.ensures c.in-Some-Branch.is
    c.in-Some-Branch.field-0-is
    (at-address c.args.question c.args.x2 c.args.b2 c.args.d2 (λ address. branch_row c.in-Some-Branch.branch c.args.r1 (done
    (Some address)) next length) m c.args.found.now.items _ _ _
    c.in_ok-address-in-Some-Branch.ensures.address c.in_ok-address-in-Some-Branch.ensures.read
    (c.in_ok-push_branch-in-Some-Branch.ensures
    ∙ branch-walked c.args.question c.in-Some-Branch.branch c.args.r1 (done (Some c.in_ok-address-in-Some-Branch.address)) next length m _ [] refl))

pub returns-in_ok-push_store-in-Some-StoreBytes : goal.returns-in_ok-push_store-in-Some-StoreBytes
returns-in_ok-push_store-in-Some-StoreBytes c next length =
    let m = seen c.args.machine.now.whole
    in let p = profile_of c.args.machine.now.whole.core
    in let parts = address_read c.args.x2 c.args.b2 c.args.d2
    in by-row c.args.question (λ o. first_row (rx_row p c.args.r1 parts next length o) (converting p c.args.r1 parts next
    (conversion_of c.args.operation)) None) m
    c.args.found.now.items _ (row_of c.args.operation) _ _ (OperationRow.StoreBytes c.in-Some-StoreBytes.width) c.row.ensures c.in-Some-StoreBytes.is
    c.in-Some-StoreBytes.field-0-is
    (at-address c.args.question c.args.x2 c.args.b2 c.args.d2 (λ address. store_row p c.in-Some-StoreBytes.width c.args.r1 address next) m
    c.args.found.now.items _ _ _
    c.in_ok-address-in-Some-StoreBytes.ensures.address c.in_ok-address-in-Some-StoreBytes.ensures.read
    (c.in_ok-push_store-in-Some-StoreBytes.ensures next))

pub returns-in_ok-push_conversion-in-Some : goal.returns-in_ok-push_conversion-in-Some
returns-in_ok-push_conversion-in-Some c next length =
    let m = seen c.args.machine.now.whole
    in let p = profile_of c.args.machine.now.whole.core
    in let parts = address_read c.args.x2 c.args.b2 c.args.d2
    in without-row c.args.question (λ o. first_row (rx_row p c.args.r1 parts next length o) (converting p c.args.r1 parts next
    (conversion_of c.args.operation)) None)
    m c.args.found.now.items _ (row_of c.args.operation) _ refl (conversion-alone c.args.operation c.in-Some.conversion (sym c.conversion_of.ensures
    ∙ c.in-Some.is))
    (by-row c.args.question (λ o. first_row None (converting p c.args.r1 parts next o) None) m c.args.found.now.items _ (conversion_of c.args.operation) _ _ _
    c.conversion_of.ensures c.in-Some.is refl
    (at-address c.args.question c.args.x2 c.args.b2 c.args.d2 (λ address. conversion_row p c.in-Some.conversion c.args.r1 address next) m c.args.found.now.items
    _ _ _ c.in_ok-address-in-Some.ensures.address c.in_ok-address-in-Some.ensures.read (c.in_ok-push_conversion-in-Some.ensures next)))
