-- A fixed-point, branch or shift instruction: its row in its format (GA22-6821, "Fixed-Point Arithmetic", "Logical Operations" and "Branching").
use Rattle.std.specs.Prelude.{ℕ, Option, None, Some, option_and_then, option_map}
use Rattle.s360_fixed.specs.declared.{form.Form.Form, row.OperationRow.OperationRow}
use Rattle.s360_fixed.specs.declared.second_operand.{SecondOperand.SecondOperand, Width.TheVariants.Word}
use Rattle.s360_fixed.specs.Branching.{branch_outcome, index_outcome, register_target}
use Rattle.s360_fixed.specs.Operands.{Operand, operand_address, storage_operand, word_operand}
use Rattle.s360_fixed.specs.{Outcomes.combination_outcome, Outcomes.pair_outcome, Rows.row_of, Shifting.pair_shift_outcome, Shifting.shift_outcome}
use Rattle.s360_fixed.specs.{Storing.load_multiple_outcome, Storing.store_multiple_outcome, Storing.store_outcome, View.Outcome, View.View, View.register_of}

-- a row of R1 and a second operand that is in R2; and one that is in storage at an address, or the address
abbrev pub with_register : (View → ℕ → Operand → Outcome) → View → ℕ → ℕ → Outcome
with_register row v r1 r2 = row v r1 (word_operand (register_of v r2))

abbrev pub with_operand : SecondOperand → (View → ℕ → Operand → Outcome) → View → ℕ → ℕ → Outcome
with_operand second row v r1 address = row v r1 (storage_operand v.core second address)

-- the rows of the format RR, by R1 and R2, which has the second operand or the branch address
abbrev pub rr_outcome : OperationRow → Option (View → ℕ → ℕ → Outcome)
rr_outcome (OperationRow.Combine second c) = Some (with_register (combination_outcome c))
rr_outcome (OperationRow.CombinePair c) = Some (with_register (pair_outcome c))
rr_outcome (OperationRow.Branch b) = Some (λ v r1 r2. branch_outcome b v r1 (register_target v r2))
rr_outcome row = None

-- the rows of the format RX, by R1 and the address
abbrev pub rx_outcome : OperationRow → Option (View → ℕ → ℕ → Outcome)
rx_outcome (OperationRow.Combine second c) = Some (with_operand second (combination_outcome c))
rx_outcome (OperationRow.CombinePair c) = Some (with_operand (SecondOperand.InStorage Word) (pair_outcome c))
rx_outcome (OperationRow.Branch b) = Some (λ v r1 address. branch_outcome b v r1 (Some address))
rx_outcome (OperationRow.StoreBytes width) = Some (store_outcome width)
rx_outcome row = None

-- the rows of the format RS, by R1, R3 and the address. A shift has no R3
abbrev pub rs_outcome : OperationRow → Option (View → ℕ → ℕ → ℕ → Outcome)
rs_outcome OperationRow.StoreRegisters = Some store_multiple_outcome
rs_outcome OperationRow.LoadRegisters = Some load_multiple_outcome
rs_outcome (OperationRow.Shift s) = Some (λ v r1 r3. shift_outcome s v r1)
rs_outcome (OperationRow.ShiftPair s) = Some (λ v r1 r3. pair_shift_outcome s v r1)
rs_outcome (OperationRow.BranchOnIndex b) = Some (index_outcome b)
rs_outcome row = None

-- what an instruction does, where it is one of these chapters
abbrev pub fixed_outcome : Form → Option (View → Outcome)
fixed_outcome (Form.Rr operation r1 r2) = option_map (λ f v. f v r1 r2) (option_and_then rr_outcome (row_of operation))
fixed_outcome (Form.Rx operation r1 x2 b2 d2) =
    option_map (λ f v. f v r1 (operand_address v.core.registers x2 b2 d2)) (option_and_then rx_outcome (row_of operation))
fixed_outcome (Form.Rs operation r1 r3 b2 d2) =
    option_map (λ f v. f v r1 r3 (operand_address v.core.registers 0 b2 d2)) (option_and_then rs_outcome (row_of operation))
fixed_outcome form = None
