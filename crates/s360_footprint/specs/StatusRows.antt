-- The rows of an immediate byte, the conversions and status switching as readings (GA22-6821, "Logical Operations", "Fixed-Point Arithmetic" and "Status
-- Switching").
use Rattle.std.specs.Prelude.{ℕ, ◌+◌, ◌*◌, ◌/◌, ◌%◌, not, nat_eq, nat_le, if◌then◌else◌, ℤ, pos, Option, None, Some, [], ◌∷◌}
use Rattle.std.specs.Int.{bytes_high_first}
use Rattle.s360_model.specs.{Arithmetic.word_of, ConditionCodes.order_code, Numbers.fits_word, Numbers.signed, Packed.packed, Packed.packed_value}
use Rattle.s360_model.specs.Psw.{ascii_mode_of, current_psw, problem_state_of, with_instruction_address, with_program_mask, with_system_mask}
use Rattle.s360_store.specs.declared.place.Place.TheVariants.{Psw, Register, Byte, Key}
use Rattle.s360_store.specs.declared.protection.Access.{Access}
use Rattle.s360_fixed.specs.declared.{ended.Ended.Ended, program_code.ProgramCode.TheVariants.Data, program_code.ProgramCode.TheVariants.FixedPointDivide}
use Rattle.s360_fixed.specs.ProgramCodes.{Conditions, no_conditions, program_code}
use Rattle.s360_logic.specs.declared.row.{ByteCombination.ByteCombination, ByteCombination.TheVariants.Second, Conversion.Conversion, ImmediateRow.ImmediateRow}
use Rattle.s360_logic.specs.declared.row.{KeyRow.KeyRow, RegisterStatus.RegisterStatus, StorageStatus.StorageStatus}
use Rattle.s360_logic.specs.{Bytes.byte_result, Bytes.combination_code, Immediate.immediate_access, Immediate.mask_code}
use Rattle.s360_logic.specs.Status.{block_of, key_in, unit_of, with_key_in}
use Rattle.s360_footprint.specs.Altering.{altering_row, completed_row, psw_store, refused, unless_refused}
use Rattle.s360_footprint.specs.LeftToRightRows.{code_altering, sets_code, stored_row}
use Rattle.s360_footprint.specs.OperandReadings.{Profile, conditions_read, number_read}
use Rattle.s360_footprint.specs.Readings.{Reading, bind, done, read}
use Rattle.s360_footprint.specs.Rows.{Row}
use Rattle.s360_footprint.specs.StoringRows.{bytes_row}

-- a byte that is moved is the instruction's; any other result is made of the byte in storage too
abbrev pub combined_read : ByteCombination → ℕ → ℕ → Reading ℕ
combined_read Second i2 address = done i2
combined_read c i2 address = read (Byte address) (λ byte. done (byte_result c byte i2))

abbrev pub combined_code : ByteCombination → ℕ → ℕ → Reading (Option ℕ)
combined_code c i2 address = if sets_code c then read (Byte address) (λ byte. done (combination_code c (byte_result c byte i2 ∷ []))) else done None

abbrev pub immediate_made : ImmediateRow → ℕ → ℕ → ℕ → Row Ended
immediate_made (ImmediateRow.Combine c) i2 address next =
    stored_row (record { place = Byte address; value = combined_read c i2 address } ∷ []) (combined_code c i2 address) next
immediate_made ImmediateRow.Compare i2 address next =
    altering_row (code_altering (read (Byte address) (λ byte. done (order_code (pos byte) (pos i2)))) next)
immediate_made ImmediateRow.TestUnderMask i2 address next =
    altering_row (code_altering (read (Byte address) (λ byte. done (mask_code byte i2))) next)
immediate_made ImmediateRow.TestAndSet i2 address next =
    stored_row (record { place = Byte address; value = done 0xFF } ∷ []) (read (Byte address) (λ byte. done (Some (byte / 128)))) next

abbrev pub immediate_row : Profile → ImmediateRow → ℕ → ℕ → ℕ → Row Ended
immediate_row p row i2 address next =
    bind (conditions_read p address 1 1 (immediate_access row)) (λ c. unless_refused (program_code c) (immediate_made row i2 address next))

-- the number that is converted to binary decides how the instruction ends
abbrev pub binary_read : ℕ → Reading (Option ℤ)
binary_read address = bind (number_read address 8) (λ doubleword. done (packed_value doubleword))

abbrev pub word_of_number : Option ℤ → ℕ
word_of_number None = 0
word_of_number (Some n) = word_of n

abbrev pub binary_made : Reading (Option ℤ) → ℕ → ℕ → Option ℤ → Row Ended
binary_made number r1 next None = refused Data
binary_made number r1 next (Some n) = done (record {
  ended = if fits_word n then Ended.Done else Ended.Program FixedPointDivide;
  stores = record { place = Register r1; value = bind number (λ o. done (word_of_number o)) } ∷ psw_store (done None) (done next);
})

abbrev pub decimal_read : ℕ → Reading ℕ
decimal_read r1 = read Psw (λ psw. read (Register r1) (λ word. done (packed (ascii_mode_of psw) (signed word))))

abbrev pub conversion_row : Profile → Conversion → ℕ → ℕ → ℕ → Row Ended
conversion_row p Conversion.ToBinary r1 address next =
    bind (conditions_read p address 8 8 Access.Fetch) (λ c.
    unless_refused (program_code c) (bind (binary_read address) (binary_made (binary_read address) r1 next)))
conversion_row p Conversion.ToDecimal r1 address next =
    bytes_row p (bind (decimal_read r1) (λ number. done (bytes_high_first 8 number))) 8 address next

-- the PSW becomes this one
abbrev pub psw_row : Reading ℕ → Row Ended
psw_row psw = done (record { ended = Ended.Done; stores = record { place = Psw; value = psw } ∷ [] })

-- what a privileged instruction meets beside its other conditions
abbrev pub privileged_read : Reading Conditions → Reading Conditions
privileged_read conditions = bind conditions (λ (c : Conditions). read Psw (λ psw. done (record c { privileged = problem_state_of psw })))

-- a storage key by the word that names its block
abbrev pub key_made : Profile → KeyRow → ℕ → ℕ → ℕ → Row Ended
key_made p KeyRow.Set r1 block next =
    completed_row (record { place = Key block; value = read (Register r1) (λ word. done (key_in p.fetch_protection word)) } ∷ []) next
key_made p KeyRow.Insert r1 block next =
    completed_row (record { place = Register r1; value = read (Register r1) (λ word. read (Key block) (λ key. done (with_key_in word key))) } ∷ []) next

abbrev pub key_conditions_of : Profile → ℕ → Conditions
key_conditions_of p word =
    record no_conditions { specification = not (nat_eq (word % 16) 0); addressing = nat_le p.blocks (block_of word) }

abbrev pub key_row : Profile → KeyRow → ℕ → ℕ → ℕ → Row Ended
key_row p row r1 r2 next =
    read (Register r2) (λ word.
    bind (privileged_read (done (key_conditions_of p word))) (λ c. unless_refused (program_code c) (key_made p row r1 (block_of word) next)))

abbrev pub register_status_row : Profile → RegisterStatus → ℕ → ℕ → ℕ → Row Ended
register_status_row p RegisterStatus.SetProgramMask r1 r2 next =
    psw_row (read Psw (λ psw. read (Register r1) (λ word. done (with_program_mask (with_instruction_address psw next) word))))
register_status_row p RegisterStatus.SupervisorCall r1 r2 next = done (record { ended = Ended.Svc (r1 * 16 + r2); stores = [] })
register_status_row p (RegisterStatus.StorageKey row) r1 r2 next = key_row p row r1 r2 next

-- a privileged instruction that fetches so many bytes, on the boundary of their number
abbrev pub privileged_row : Profile → ℕ → ℕ → Row Ended → Row Ended
privileged_row p address count row =
    bind (privileged_read (conditions_read p address count count Access.Fetch)) (λ c. unless_refused (program_code c) row)

abbrev pub storage_status_row : Profile → StorageStatus → ℕ → ℕ → Row Ended
storage_status_row p StorageStatus.SetSystemMask address next =
    privileged_row p address 1
    (psw_row (read Psw (λ psw. read (Byte address) (λ byte. done (with_system_mask (with_instruction_address psw next) byte)))))
storage_status_row p StorageStatus.LoadPsw address next =
    privileged_row p address 8 (psw_row (bind (number_read address 8) (λ doubleword. done (current_psw doubleword))))
storage_status_row p (StorageStatus.InputOutput operation) address next =
    bind (privileged_read (done no_conditions)) (λ c.
    unless_refused (program_code c) (done (record { ended = Ended.Io operation (unit_of address); stores = [] })))
