use Rattle.std.proofs.Common.{None}
use Rattle.s360_fixed.specs.declared.row.OperationRow.{OperationRow}
use Rattle.s360_fixed.specs.Rows.{row_of}
use Rattle.s360_logic.specs.Rows.{register_status_of}
use Rattle.s360_machine.specs.Machine.{seen}
use Rattle.s360_footprint.specs.FormRows.{first_row, of_registers, rr_row}
use Rattle.s360_footprint.specs.OperandReadings.{profile_of}
use Rattle.s360_source.proofs.FormLemmas.{by-row}
use Rattle.s360_source.proofs.form.push_rr.Goals as goal

pub returns-in_ok-push_combined-in-Some-Combine : goal.returns-in_ok-push_combined-in-Some-Combine
returns-in_ok-push_combined-in-Some-Combine c next length =
    by-row c.args.question (λ o. first_row (rr_row c.args.r1 c.args.r2 next length o) None
    (of_registers (profile_of c.args.machine.now.whole.core) c.args.r1 c.args.r2 next (register_status_of c.args.operation)))
    (seen c.args.machine.now.whole) c.args.found.now.items _ (row_of c.args.operation) _ _
    (OperationRow.Combine c.in-Some-Combine.field-0-0 c.in-Some-Combine.combination)
    c.row.ensures c.in-Some-Combine.is c.in-Some-Combine.field-0-is (c.in_ok-push_combined-in-Some-Combine.ensures next)

pub returns-in_ok-push_pair-in-Some-CombinePair : goal.returns-in_ok-push_pair-in-Some-CombinePair
returns-in_ok-push_pair-in-Some-CombinePair c next length =
    by-row c.args.question (λ o. first_row (rr_row c.args.r1 c.args.r2 next length o) None
    (of_registers (profile_of c.args.machine.now.whole.core) c.args.r1 c.args.r2 next (register_status_of c.args.operation)))
    (seen c.args.machine.now.whole) c.args.found.now.items _ (row_of c.args.operation) _ _ (OperationRow.CombinePair c.in-Some-CombinePair.pair)
    c.row.ensures c.in-Some-CombinePair.is c.in-Some-CombinePair.field-0-is (c.in_ok-push_pair-in-Some-CombinePair.ensures next)
