-- Rows of an immediate byte, conversions and status switching do what their definitions say.
use Rattle.std.proofs.Common.{ℕ, ◌/◌, ◌≡◌, ◌∙◌, cond, Option, Some, None, [], ◌∷◌, refl, ap}
use Rattle.std.proofs.Common.{get_or, pos, ℤ}
use Rattle.std.specs.Int.{bytes_high_first}
use Rattle.s360_model.specs.{Arithmetic.word_of, ConditionCodes.order_code, Numbers.fits_word}
use Rattle.s360_model.specs.{Packed.packed_value}
use Rattle.s360_model.specs.Psw.{current_psw, problem_state_of}
use Rattle.s360_model.specs.Storage.{doubleword_at}
use Rattle.s360_psw.specs.declared.instruction_length.InstructionLength.{InstructionLength}
use Rattle.s360_store.specs.declared.place.Place.TheVariants.{Register, Byte, Key}
use Rattle.s360_store.specs.declared.protection.Access.{Access}
use Rattle.s360_fixed.specs.declared.{ended.Ended.Ended, program_code.ProgramCode.TheVariants.FixedPointDivide}
use Rattle.s360_fixed.specs.{Alterations.core_with_alteration, Alterations.one_register, Alterations.unchanged, Operands.access_conditions}
use Rattle.s360_fixed.specs.ProgramCodes.{Conditions, no_conditions}
use Rattle.s360_fixed.specs.{Outcomes.unless_met}
use Rattle.s360_logic.specs.declared.row.{ByteCombination.ByteCombination, Conversion.Conversion, ImmediateRow.ImmediateRow}
use Rattle.s360_logic.specs.declared.row.{KeyRow.KeyRow, RegisterStatus.RegisterStatus, StorageStatus.StorageStatus}
use Rattle.s360_logic.specs.declared.row.ByteCombination.TheVariants.{Second, LowHalf, HighHalf, BitwiseAnd, BitwiseOr, BitwiseExclusiveOr}
use Rattle.s360_logic.specs.Bytes.{byte_at, byte_result, combination_code, with_byte}
use Rattle.s360_logic.specs.Converting.{conversion_outcome, converted_outcome}
use Rattle.s360_logic.specs.Immediate.{immediate_access, immediate_outcome, immediate_result, mask_code}
use Rattle.s360_logic.specs.Status.{block_of, key_conditions, key_in, key_outcome, privileged, register_status_outcome, storage_status_outcome, unit_of}
use Rattle.s360_logic.specs.Status.{with_key_in, with_psw}
use Rattle.s360_machine.specs.Machine.{Machine}
use Rattle.s360_footprint.specs.Altering.{happened, view_in, with_outcome}
use Rattle.s360_footprint.specs.OperandReadings.{conditions_read, number_read, profile_of}
use Rattle.s360_footprint.specs.Readings.{Reading, bind, done, read, run}
use Rattle.s360_footprint.specs.StatusRows.{binary_made, binary_read, combined_code, combined_read, conversion_row, decimal_read, immediate_made, immediate_row}
use Rattle.s360_footprint.specs.StatusRows.{key_conditions_of, key_made}
use Rattle.s360_footprint.specs.StatusRows.{key_row, privileged_read, privileged_row, psw_row, register_status_row, storage_status_row, word_of_number}
use Rattle.s360_footprint.proofs.AlteringLemmas.{completed-is, conditioned, happened-bind, psw-stored}
use Rattle.s360_footprint.proofs.LeftToRightRowLemmas.{code-alone-is, stored-is}
use Rattle.s360_footprint.proofs.OperandLemmas.{conditions-are, number-is}
use Rattle.s360_footprint.proofs.ReadingLemmas.{run-bind}
use Rattle.s360_footprint.proofs.StoringRowLemmas.{bytes-row-is}

-- an immediate byte
combined-by : (c : ByteCombination) (i2 address next : ℕ) (long : InstructionLength) (m : Machine)
    → run (combined_read c i2 address) m ≡ byte_result c (byte_at m.core.storage address) i2
    → run (combined_code c i2 address) m ≡ combination_code c (byte_result c (byte_at m.core.storage address) i2 ∷ [])
    → happened (immediate_made (ImmediateRow.Combine c) i2 address next) m
    ≡ with_outcome m (immediate_result (ImmediateRow.Combine c) (view_in m next long) (byte_at m.core.storage address) i2 address)
combined-by c i2 address next long m e k =
    stored-is (record { place = Byte address; value = combined_read c i2 address } ∷ []) (combined_code c i2 address) next long m
    (with_byte address (byte_result c (byte_at m.core.storage address) i2) m.core.storage) _
    (ap (λ b. record m { core = record m.core { storage = with_byte address b m.core.storage } }) e) k

made-is : (row : ImmediateRow) (i2 address next : ℕ) (long : InstructionLength) (m : Machine)
    → happened (immediate_made row i2 address next) m ≡ with_outcome m (immediate_result row (view_in m next long) (byte_at m.core.storage address) i2 address)
made-is (ImmediateRow.Combine Second) i2 address next long m = combined-by Second i2 address next long m refl refl
made-is (ImmediateRow.Combine LowHalf) i2 address next long m = combined-by LowHalf i2 address next long m refl refl
made-is (ImmediateRow.Combine HighHalf) i2 address next long m = combined-by HighHalf i2 address next long m refl refl
made-is (ImmediateRow.Combine BitwiseAnd) i2 address next long m = combined-by BitwiseAnd i2 address next long m refl refl
made-is (ImmediateRow.Combine BitwiseOr) i2 address next long m = combined-by BitwiseOr i2 address next long m refl refl
made-is (ImmediateRow.Combine BitwiseExclusiveOr) i2 address next long m = combined-by BitwiseExclusiveOr i2 address next long m refl refl
made-is ImmediateRow.Compare i2 address next long m =
    code-alone-is (read (Byte address) (λ byte. done (order_code (pos byte) (pos i2)))) next long m
    (order_code (pos (byte_at m.core.storage address)) (pos i2)) refl
made-is ImmediateRow.TestUnderMask i2 address next long m =
    code-alone-is (read (Byte address) (λ byte. done (mask_code byte i2))) next long m (mask_code (byte_at m.core.storage address) i2) refl
made-is ImmediateRow.TestAndSet i2 address next long m =
    stored-is (record { place = Byte address; value = done 0xFF } ∷ []) (read (Byte address) (λ byte. done (Some (byte / 128)))) next long m
    (with_byte address 0xFF m.core.storage) (Some (byte_at m.core.storage address / 128)) refl refl

pub immediate-is : (row : ImmediateRow) (i2 address next : ℕ) (long : InstructionLength) (m : Machine)
    → happened (immediate_row (profile_of m.core) row i2 address next) m ≡ with_outcome m (immediate_outcome row (view_in m next long) i2 address)
immediate-is row i2 address next long m =
    conditioned (conditions_read (profile_of m.core) address 1 1 (immediate_access row)) (immediate_made row i2 address next) m _ _
    (conditions-are address 1 1 (immediate_access row) m) (made-is row i2 address next long m)

-- conversions
binary-is : (address : ℕ) (m : Machine) → run (binary_read address) m ≡ packed_value (doubleword_at m.core.storage.bytes address)
binary-is address m = run-bind (number_read address 8) (λ doubleword. done (packed_value doubleword)) m ∙ ap packed_value (number-is address 8 m)

binary-by : (number : Reading (Option ℤ)) (r1 next : ℕ) (long : InstructionLength) (m : Machine) (o : Option ℤ) → run number m ≡ o
    → happened (binary_made number r1 next o) m ≡ with_outcome m (converted_outcome o (view_in m next long) r1)
binary-by number r1 next long m None e = refl
binary-by number r1 next long m (Some n) e =
    let word : run (bind number (λ o. done (word_of_number o))) m ≡ word_of n = run-bind number (λ o. done (word_of_number o)) m ∙ ap word_of_number e
    in ap (λ x. record { ended = cond (fits_word n) Ended.Done (Ended.Program FixedPointDivide); machine = x })
    (psw-stored (record { place = Register r1; value = bind number (λ o. done (word_of_number o)) } ∷ []) (done None) (done next) m _ refl)
    ∙ ap (λ w. with_outcome m (record {
      ended = cond (fits_word n) Ended.Done (Ended.Program FixedPointDivide);
      core = core_with_alteration (one_register r1 w unchanged next) m.core;
    })) word

pub conversion-is : (row : Conversion) (r1 address next : ℕ) (long : InstructionLength) (m : Machine)
    → happened (conversion_row (profile_of m.core) row r1 address next) m ≡ with_outcome m (conversion_outcome row (view_in m next long) r1 address)
conversion-is Conversion.ToBinary r1 address next long m =
    let number : Reading (Option ℤ) = binary_read address
    in let o : Option ℤ = packed_value (doubleword_at m.core.storage.bytes address)
    in conditioned (conditions_read (profile_of m.core) address 8 8 Access.Fetch) (bind number (binary_made number r1 next)) m _ _
    (conditions-are address 8 8 Access.Fetch m)
    (happened-bind number (binary_made number r1 next) m o (binary-is address m) ∙ binary-by number r1 next long m o (binary-is address m))
conversion-is Conversion.ToDecimal r1 address next long m =
    bytes-row-is (bind (decimal_read r1) (λ number. done (bytes_high_first 8 number))) 8 address next long m refl

-- status switching
privileged-is : (conditions : Reading Conditions) (c : Conditions) (next : ℕ) (long : InstructionLength) (m : Machine) → run conditions m ≡ c
    → run (privileged_read conditions) m ≡ privileged (view_in m next long) c
privileged-is conditions c next long m e = run-bind conditions _ m ∙ ap (λ (x : Conditions). record x { privileged = problem_state_of m.core.psw }) e

key-made-is : (row : KeyRow) (r1 block next : ℕ) (long : InstructionLength) (m : Machine)
    → happened (key_made (profile_of m.core) row r1 block next) m ≡ with_outcome m (key_outcome row (view_in m next long) r1 block)
key-made-is KeyRow.Set r1 block next long m =
    completed-is (record { place = Key block; value = read (Register r1) (λ word. done (key_in m.core.storage.fetch_protection word)) } ∷ []) next m _ refl
key-made-is KeyRow.Insert r1 block next long m =
    completed-is (record { place = Register r1; value = read (Register r1) (λ word. read (Key block) (λ key. done (with_key_in word key))) } ∷ []) next m _ refl

key-is : (row : KeyRow) (r1 r2 next : ℕ) (long : InstructionLength) (m : Machine)
    → happened (key_row (profile_of m.core) row r1 r2 next) m
    ≡ with_outcome m (register_status_outcome (RegisterStatus.StorageKey row) (view_in m next long) r1 r2)
key-is row r1 r2 next long m =
    let word : ℕ = get_or m.core.registers r2 0
    in conditioned (privileged_read (done (key_conditions_of (profile_of m.core) word))) (key_made (profile_of m.core) row r1 (block_of word) next) m
    (key_conditions (view_in m next long) word) (key_outcome row (view_in m next long) r1 (block_of word)) refl (key-made-is row r1 (block_of word) next long m)

pub register-status-is : (row : RegisterStatus) (r1 r2 next : ℕ) (long : InstructionLength) (m : Machine)
    → happened (register_status_row (profile_of m.core) row r1 r2 next) m ≡ with_outcome m (register_status_outcome row (view_in m next long) r1 r2)
register-status-is RegisterStatus.SetProgramMask r1 r2 next long m = refl
register-status-is RegisterStatus.SupervisorCall r1 r2 next long m = refl
register-status-is (RegisterStatus.StorageKey row) r1 r2 next long m = key-is row r1 r2 next long m

psw-row-is : (psw : Reading ℕ) (next : ℕ) (long : InstructionLength) (m : Machine) (p : ℕ) → run psw m ≡ p
    → happened (psw_row psw) m ≡ with_outcome m (with_psw (view_in m next long) p)
psw-row-is psw next long m p e = ap (λ v. with_outcome m (with_psw (view_in m next long) v)) e

privileged-row-is : (address count : ℕ) (psw : Reading ℕ) (p next : ℕ) (long : InstructionLength) (m : Machine) → run psw m ≡ p
    → happened (privileged_row (profile_of m.core) address count (psw_row psw)) m
    ≡ with_outcome m (unless_met (privileged (view_in m next long) (access_conditions m.core address count count Access.Fetch)) m.core
    (with_psw (view_in m next long) p))
privileged-row-is address count psw p next long m e =
    conditioned (privileged_read (conditions_read (profile_of m.core) address count count Access.Fetch)) (psw_row psw) m _ _
    (privileged-is (conditions_read (profile_of m.core) address count count Access.Fetch) _ next long m (conditions-are address count count Access.Fetch m))
    (psw-row-is psw next long m p e)

pub storage-status-is : (row : StorageStatus) (address next : ℕ) (long : InstructionLength) (m : Machine)
    → happened (storage_status_row (profile_of m.core) row address next) m ≡ with_outcome m (storage_status_outcome row (view_in m next long) address)
storage-status-is StorageStatus.SetSystemMask address next long m = privileged-row-is address 1 _ _ next long m refl
storage-status-is StorageStatus.LoadPsw address next long m =
    privileged-row-is address 8 (bind (number_read address 8) (λ doubleword. done (current_psw doubleword))) _ next long m
    (run-bind (number_read address 8) (λ doubleword. done (current_psw doubleword)) m ∙ ap current_psw (number-is address 8 m))
storage-status-is (StorageStatus.InputOutput operation) address next long m =
    conditioned (privileged_read (done no_conditions)) (done (record { ended = Ended.Io operation (unit_of address); stores = [] })) m
    (privileged (view_in m next long) no_conditions) (record { ended = Ended.Io operation (unit_of address); core = m.core }) refl refl
