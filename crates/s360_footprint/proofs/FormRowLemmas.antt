-- The rows of all forms do what the forms do.
use Rattle.std.proofs.Common.{ℕ, ◌+◌, ◌/◌, ◌%◌, ◌≡◌, ◌∙◌, Option, Some, None, refl, sym, ap}
use Rattle.std.specs.Prelude.{option_and_then}
use Rattle.std.specs.Option.{option_map}
use Rattle.s360_psw.specs.declared.instruction_length.InstructionLength.{InstructionLength}
use Rattle.s360_fixed.specs.declared.program_code.ProgramCode.TheVariants.{Operation as operation_code}
use Rattle.s360_fixed.specs.declared.{ended.Ended.Ended, form.Form.Form, row.OperationRow.OperationRow as FixedRow, second_operand.SecondOperand.SecondOperand}
use Rattle.s360_fixed.specs.declared.{second_operand.Width.Width}
use Rattle.s360_fixed.specs.{Branching.branch_outcome, Fixed.fixed_outcome, Fixed.rr_outcome, Fixed.rs_outcome, Fixed.rx_outcome, Operands.operand_address}
use Rattle.s360_fixed.specs.{Rows.row_of}
use Rattle.s360_fixed.specs.{Outcomes.combination_outcome, Outcomes.pair_outcome, View.Outcome, View.View}
use Rattle.s360_logic.specs.declared.row.{Conversion.Conversion, ImmediateRow.ImmediateRow, RegisterStatus.RegisterStatus, StorageRow.StorageRow}
use Rattle.s360_logic.specs.declared.row.{StorageStatus.StorageStatus}
use Rattle.s360_logic.specs.{Converting.conversion_outcome, Immediate.immediate_outcome, Logic.by_row, Logic.logic_outcome}
use Rattle.s360_logic.specs.{Logic.status_outcome}
use Rattle.s360_logic.specs.{Logic.storage_outcome, Status.register_status_outcome, Status.storage_status_outcome}
use Rattle.s360_logic.specs.Rows.{conversion_of, immediate_row_of, register_status_of, storage_row_of, storage_status_of}
use Rattle.s360_machine.specs.Machine.{Machine}
use Rattle.s360_footprint.specs.Altering.{happened, view_in, with_outcome}
use Rattle.s360_footprint.specs.FormRows.{converting, first_row, fixed_row, form_rows, immediate, in_storage, logic_row, of_registers, of_storage, rr_row}
use Rattle.s360_footprint.specs.FormRows.{rs_row, rx_row, status_row, storage_row}
use Rattle.s360_footprint.specs.InstructionRows.{RowsAre}
use Rattle.s360_footprint.specs.OperandReadings.{address_read, profile_of, register_operand, second_operand_read}
use Rattle.s360_footprint.specs.Readings.{Reading, bind, done, run}
use Rattle.s360_footprint.specs.RegisterRows.{branch_row, combination_row, index_row, pair_row, pair_shift_row, shift_row, target_read}
use Rattle.s360_footprint.specs.Rows.{Row}
use Rattle.s360_footprint.specs.StatusRows.{conversion_row, immediate_row, storage_status_row}
use Rattle.s360_footprint.specs.StoringRows.{load_multiple_row, store_multiple_row, store_row}
use Rattle.s360_footprint.proofs.AlteringLemmas.{happened-bind}
use Rattle.s360_footprint.proofs.DigitRowLemmas.{digits-are}
use Rattle.s360_footprint.proofs.LeftToRightRowLemmas.{combine-is, compare-is}
use Rattle.s360_footprint.proofs.OperandLemmas.{address-is, second-operand-is}
use Rattle.s360_footprint.proofs.PairRowLemmas.{branch-is, index-is, pair-row-is, pair-shift-is, shift-is, target-is}
use Rattle.s360_footprint.proofs.RegisterRowLemmas.{combination-is}
use Rattle.s360_footprint.proofs.StatusRowLemmas.{conversion-is, immediate-is, register-status-is, storage-status-is}
use Rattle.s360_footprint.proofs.StoringRowLemmas.{load-multiple-is, store-is, store-multiple-is}
use Rattle.s360_footprint.proofs.TranslateRowLemmas.{translate-and-test-is, translate-is}

-- a row and an outcome are found both, and the row does what the outcome says, or neither is found
abbrev Matches : Machine → View → Option (Row Ended) → Option (View → Outcome) → Type 0
Matches m v None None = Unit {0}
Matches m v (Some row) (Some outcome) = happened row m ≡ with_outcome m (outcome v)
Matches m v row outcome = ⊥

-- with the address of an operand
addressed : (parts : Reading ℕ) (row : ℕ → Row Ended) (outcome : Outcome) (address : ℕ) (m : Machine) → run parts m ≡ address
    → happened (row address) m ≡ with_outcome m outcome
    → happened (bind parts row) m ≡ with_outcome m outcome
addressed parts row outcome address m e h = happened-bind parts row m address e ∙ h

rr-matches : (r1 r2 next : ℕ) (length : InstructionLength) (o : Option FixedRow) (m : Machine)
    → Matches m (view_in m next length) (rr_row r1 r2 next length o) (option_map (λ f v. f v r1 r2) (option_and_then rr_outcome o))
rr-matches r1 r2 next length None m = tt
rr-matches r1 r2 next length (Some (FixedRow.Combine second c)) m = combination-is c r1 (register_operand r2) next length m
rr-matches r1 r2 next length (Some (FixedRow.CombinePair c)) m = pair-row-is c r1 (register_operand r2) next length m
rr-matches r1 r2 next length (Some (FixedRow.Branch b)) m =
    branch-is b r1 (target_read r2) next length m
    ∙ ap (λ t. with_outcome m (branch_outcome b (view_in m next length) r1 t)) (target-is r2 (view_in m next length) m refl)
rr-matches r1 r2 next length (Some (FixedRow.StoreBytes width)) m = tt
rr-matches r1 r2 next length (Some FixedRow.StoreRegisters) m = tt
rr-matches r1 r2 next length (Some FixedRow.LoadRegisters) m = tt
rr-matches r1 r2 next length (Some (FixedRow.Shift s)) m = tt
rr-matches r1 r2 next length (Some (FixedRow.ShiftPair s)) m = tt
rr-matches r1 r2 next length (Some (FixedRow.BranchOnIndex b)) m = tt

rx-matches : (r1 x2 b2 d2 next : ℕ) (length : InstructionLength) (o : Option FixedRow) (m : Machine)
    → Matches m (view_in m next length) (rx_row (profile_of m.core) r1 (address_read x2 b2 d2) next length o)
    (option_map (λ f v. f v r1 (operand_address v.core.registers x2 b2 d2)) (option_and_then rx_outcome o))
rx-matches r1 x2 b2 d2 next length None m = tt
rx-matches r1 x2 b2 d2 next length (Some (FixedRow.Combine second c)) m =
    let parts : Reading ℕ = address_read x2 b2 d2
    in let address : ℕ = operand_address m.core.registers x2 b2 d2
    in addressed parts (λ a. combination_row c r1 (second_operand_read (profile_of m.core) second parts a) next) _ address m (address-is x2 b2 d2 m)
    (combination-is c r1 (second_operand_read (profile_of m.core) second parts address) next length m
    ∙ ap (λ s. with_outcome m (combination_outcome c (view_in m next length) r1 s)) (second-operand-is second parts address m (address-is x2 b2 d2 m)))
rx-matches r1 x2 b2 d2 next length (Some (FixedRow.CombinePair c)) m =
    let parts : Reading ℕ = address_read x2 b2 d2
    in let address : ℕ = operand_address m.core.registers x2 b2 d2
    in addressed parts (λ a. pair_row c r1 (second_operand_read (profile_of m.core) (SecondOperand.InStorage Width.Word) parts a) next) _ address m
    (address-is x2 b2 d2 m)
    (pair-row-is c r1 (second_operand_read (profile_of m.core) (SecondOperand.InStorage Width.Word) parts address) next length m
    ∙ ap (λ s. with_outcome m (pair_outcome c (view_in m next length) r1 s))
    (second-operand-is (SecondOperand.InStorage Width.Word) parts address m (address-is x2 b2 d2 m)))
rx-matches r1 x2 b2 d2 next length (Some (FixedRow.Branch b)) m =
    let address : ℕ = operand_address m.core.registers x2 b2 d2
    in addressed (address_read x2 b2 d2) (λ a. branch_row b r1 (done (Some a)) next length) _ address m (address-is x2 b2 d2 m)
    (branch-is b r1 (done (Some address)) next length m)
rx-matches r1 x2 b2 d2 next length (Some (FixedRow.StoreBytes width)) m =
    let address : ℕ = operand_address m.core.registers x2 b2 d2
    in addressed (address_read x2 b2 d2) (λ a. store_row (profile_of m.core) width r1 a next) _ address m (address-is x2 b2 d2 m)
    (store-is width r1 address next length m)
rx-matches r1 x2 b2 d2 next length (Some FixedRow.StoreRegisters) m = tt
rx-matches r1 x2 b2 d2 next length (Some FixedRow.LoadRegisters) m = tt
rx-matches r1 x2 b2 d2 next length (Some (FixedRow.Shift s)) m = tt
rx-matches r1 x2 b2 d2 next length (Some (FixedRow.ShiftPair s)) m = tt
rx-matches r1 x2 b2 d2 next length (Some (FixedRow.BranchOnIndex b)) m = tt

rs-matches : (r1 r3 b2 d2 next : ℕ) (length : InstructionLength) (o : Option FixedRow) (m : Machine)
    → Matches m (view_in m next length) (rs_row (profile_of m.core) r1 r3 (address_read 0 b2 d2) next o)
    (option_map (λ f v. f v r1 r3 (operand_address v.core.registers 0 b2 d2)) (option_and_then rs_outcome o))
rs-matches r1 r3 b2 d2 next length None m = tt
rs-matches r1 r3 b2 d2 next length (Some (FixedRow.Combine second c)) m = tt
rs-matches r1 r3 b2 d2 next length (Some (FixedRow.CombinePair c)) m = tt
rs-matches r1 r3 b2 d2 next length (Some (FixedRow.Branch b)) m = tt
rs-matches r1 r3 b2 d2 next length (Some (FixedRow.StoreBytes width)) m = tt
rs-matches r1 r3 b2 d2 next length (Some FixedRow.StoreRegisters) m =
    let address : ℕ = operand_address m.core.registers 0 b2 d2
    in addressed (address_read 0 b2 d2) (λ a. store_multiple_row (profile_of m.core) r1 r3 a next) _ address m (address-is 0 b2 d2 m)
    (store-multiple-is r1 r3 address next length m)
rs-matches r1 r3 b2 d2 next length (Some FixedRow.LoadRegisters) m =
    let address : ℕ = operand_address m.core.registers 0 b2 d2
    in addressed (address_read 0 b2 d2) (λ a. load_multiple_row (profile_of m.core) r1 r3 a next) _ address m (address-is 0 b2 d2 m)
    (load-multiple-is r1 r3 address next length m)
rs-matches r1 r3 b2 d2 next length (Some (FixedRow.Shift s)) m =
    let address : ℕ = operand_address m.core.registers 0 b2 d2
    in addressed (address_read 0 b2 d2) (λ a. shift_row s r1 a next) _ address m (address-is 0 b2 d2 m) (shift-is s r1 address next length m)
rs-matches r1 r3 b2 d2 next length (Some (FixedRow.ShiftPair s)) m =
    let address : ℕ = operand_address m.core.registers 0 b2 d2
    in addressed (address_read 0 b2 d2) (λ a. pair_shift_row s r1 a next) _ address m (address-is 0 b2 d2 m) (pair-shift-is s r1 address next length m)
rs-matches r1 r3 b2 d2 next length (Some (FixedRow.BranchOnIndex b)) m =
    let address : ℕ = operand_address m.core.registers 0 b2 d2
    in addressed (address_read 0 b2 d2) (λ a. index_row b r1 r3 a next) _ address m (address-is 0 b2 d2 m) (index-is b r1 r3 address next length m)

fixed-matches : (form : Form) (next : ℕ) (length : InstructionLength) (m : Machine)
    → Matches m (view_in m next length) (fixed_row (profile_of m.core) form next length) (fixed_outcome form)
fixed-matches (Form.Rr operation r1 r2) next length m = rr-matches r1 r2 next length (row_of operation) m
fixed-matches (Form.Rx operation r1 x2 b2 d2) next length m = rx-matches r1 x2 b2 d2 next length (row_of operation) m
fixed-matches (Form.Rs operation r1 r3 b2 d2) next length m = rs-matches r1 r3 b2 d2 next length (row_of operation) m
fixed-matches (Form.Si operation i2 b1 d1) next length m = tt
fixed-matches (Form.Ss operation l b1 d1 b2 d2) next length m = tt

-- the instructions on bytes and the conversions
storage-is : (row : StorageRow) (l first second next : ℕ) (length : InstructionLength) (m : Machine)
    → happened (storage_row (profile_of m.core) row l first second next) m ≡ with_outcome m (storage_outcome row (view_in m next length) l first second)
storage-is (StorageRow.Combine c) l first second next length m = combine-is c first second (l + 1) next length m
storage-is StorageRow.Compare l first second next length m = compare-is first second (l + 1) next length m
storage-is StorageRow.Translate l first second next length m = translate-is first second (l + 1) next length m
storage-is StorageRow.TranslateAndTest l first second next length m = translate-and-test-is first second (l + 1) next length m
storage-is (StorageRow.Digits row) l first second next length m =
    digits-are row (record { address = first; count = l / 16 + 1 }) (record { address = second; count = l % 16 + 1 }) next length m

converting-matches : (r1 x2 b2 d2 next : ℕ) (length : InstructionLength) (o : Option Conversion) (m : Machine)
    → Matches m (view_in m next length) (converting (profile_of m.core) r1 (address_read x2 b2 d2) next o)
    (option_map (λ row v. conversion_outcome row v r1 (operand_address v.core.registers x2 b2 d2)) o)
converting-matches r1 x2 b2 d2 next length None m = tt
converting-matches r1 x2 b2 d2 next length (Some row) m =
    let address : ℕ = operand_address m.core.registers x2 b2 d2
    in addressed (address_read x2 b2 d2) (λ a. conversion_row (profile_of m.core) row r1 a next) _ address m (address-is x2 b2 d2 m)
    (conversion-is row r1 address next length m)

immediate-matches : (i2 b1 d1 next : ℕ) (length : InstructionLength) (o : Option ImmediateRow) (m : Machine)
    → Matches m (view_in m next length) (immediate (profile_of m.core) i2 (address_read 0 b1 d1) next o)
    (option_map (λ row v. immediate_outcome row v i2 (operand_address v.core.registers 0 b1 d1)) o)
immediate-matches i2 b1 d1 next length None m = tt
immediate-matches i2 b1 d1 next length (Some row) m =
    let address : ℕ = operand_address m.core.registers 0 b1 d1
    in addressed (address_read 0 b1 d1) (λ a. immediate_row (profile_of m.core) row i2 a next) _ address m (address-is 0 b1 d1 m)
    (immediate-is row i2 address next length m)

storage-matches : (l b1 d1 b2 d2 next : ℕ) (length : InstructionLength) (o : Option StorageRow) (m : Machine)
    → Matches m (view_in m next length) (in_storage (profile_of m.core) l (address_read 0 b1 d1) (address_read 0 b2 d2) next o)
    (option_map (λ row v. storage_outcome row v l (operand_address v.core.registers 0 b1 d1) (operand_address v.core.registers 0 b2 d2)) o)
storage-matches l b1 d1 b2 d2 next length None m = tt
storage-matches l b1 d1 b2 d2 next length (Some row) m =
    let first : ℕ = operand_address m.core.registers 0 b1 d1
    in let second : ℕ = operand_address m.core.registers 0 b2 d2
    in addressed (address_read 0 b1 d1) (λ a. bind (address_read 0 b2 d2) (λ b. storage_row (profile_of m.core) row l a b next)) _ first m
    (address-is 0 b1 d1 m)
    (addressed (address_read 0 b2 d2) (λ b. storage_row (profile_of m.core) row l first b next) _ second m (address-is 0 b2 d2 m)
    (storage-is row l first second next length m))

logic-matches : (form : Form) (next : ℕ) (length : InstructionLength) (m : Machine)
    → Matches m (view_in m next length) (logic_row (profile_of m.core) form next) (logic_outcome form)
logic-matches (Form.Rr operation r1 r2) next length m = tt
logic-matches (Form.Rx operation r1 x2 b2 d2) next length m = converting-matches r1 x2 b2 d2 next length (conversion_of operation) m
logic-matches (Form.Rs operation r1 r3 b2 d2) next length m = tt
logic-matches (Form.Si operation i2 b1 d1) next length m = immediate-matches i2 b1 d1 next length (immediate_row_of operation) m
logic-matches (Form.Ss operation l b1 d1 b2 d2) next length m = storage-matches l b1 d1 b2 d2 next length (storage_row_of operation) m

-- status switching
registers-match : (r1 r2 next : ℕ) (length : InstructionLength) (o : Option RegisterStatus) (m : Machine)
    → Matches m (view_in m next length) (of_registers (profile_of m.core) r1 r2 next o) (option_map (λ row v. register_status_outcome row v r1 r2) o)
registers-match r1 r2 next length None m = tt
registers-match r1 r2 next length (Some row) m = register-status-is row r1 r2 next length m

status-by-storage : (b1 d1 next : ℕ) (length : InstructionLength) (o : Option StorageStatus) (m : Machine)
    → Matches m (view_in m next length) (of_storage (profile_of m.core) (address_read 0 b1 d1) next o)
    (option_map (λ row v. storage_status_outcome row v (operand_address v.core.registers 0 b1 d1)) o)
status-by-storage b1 d1 next length None m = tt
status-by-storage b1 d1 next length (Some row) m =
    let address : ℕ = operand_address m.core.registers 0 b1 d1
    in addressed (address_read 0 b1 d1) (λ a. storage_status_row (profile_of m.core) row a next) _ address m (address-is 0 b1 d1 m)
    (storage-status-is row address next length m)

status-matches : (form : Form) (next : ℕ) (length : InstructionLength) (m : Machine)
    → Matches m (view_in m next length) (status_row (profile_of m.core) form next) (status_outcome form)
status-matches (Form.Rr operation r1 r2) next length m = registers-match r1 r2 next length (register_status_of operation) m
status-matches (Form.Rx operation r1 x2 b2 d2) next length m = tt
status-matches (Form.Rs operation r1 r3 b2 d2) next length m = tt
status-matches (Form.Si operation i2 b1 d1) next length m = status-by-storage b1 d1 next length (storage_status_of operation) m
status-matches (Form.Ss operation l b1 d1 b2 d2) next length m = tt

-- by whichever is found first
first-is : (m : Machine) (v : View) (a b c : Option (Row Ended)) (f g h : Option (View → Outcome)) → v.core ≡ m.core → Matches m v a f → Matches m v b g
    → Matches m v c h
    → happened (first_row a b c) m ≡ with_outcome m (by_row f g h v)
first-is m v (Some a) b c (Some f) g h k x y z = x
first-is m v (Some a) b c None g h k x y z = absurd x
first-is m v None b c (Some f) g h k x y z = absurd x
first-is m v None (Some b) c None (Some g) h k x y z = y
first-is m v None (Some b) c None None h k x y z = absurd y
first-is m v None None c None (Some g) h k x y z = absurd y
first-is m v None None (Some c) None None (Some h) k x y z = z
first-is m v None None (Some c) None None None k x y z = absurd z
first-is m v None None None None None (Some h) k x y z = absurd z
first-is m v None None None None None None k x y z = ap (λ core. record { ended = Ended.Program operation_code; machine = record m { core = core } }) (sym k)

pub forms-are : (m : Machine) → RowsAre form_rows m
forms-are m form next length =
    first-is m (view_in m next length) _ _ _ _ _ _ refl (fixed-matches form next length m) (logic-matches form next length m)
    (status-matches form next length m)
