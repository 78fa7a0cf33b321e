-- The rows that store registers and load several of them, as readings (GA22-6821, "Fixed-Point Arithmetic" and "Logical Operations").
use Rattle.std.specs.Prelude.{ℕ, zero, suc, ◌+◌, ◌*◌, ◌%◌, List, [], ◌∷◌, ◌++◌, slice_index}
use Rattle.std.specs.Int.{bytes_high_first}
use Rattle.s360_store.specs.declared.{place.Place.TheVariants.Register, place.Place.TheVariants.Byte, protection.Access.Access}
use Rattle.s360_fixed.specs.declared.{ended.Ended.Ended, second_operand.Width.Width}
use Rattle.s360_fixed.specs.{Operands.bytes_of_width, ProgramCodes.program_code, Storing.register_count}
use Rattle.s360_footprint.specs.Altering.{completed_row, unless_refused}
use Rattle.s360_footprint.specs.OperandReadings.{Profile, conditions_read, number_read}
use Rattle.s360_footprint.specs.Readings.{Reading, bind, done, read}
use Rattle.s360_footprint.specs.Rows.{Row, Store}

-- so many bytes of those that are read, from number i on, are stored where the first is stored at an address
abbrev pub byte_stores : ℕ → Reading (List ℕ) → ℕ → ℕ → List Store
byte_stores address bytes i zero = []
byte_stores address bytes i (suc n) =
    record { place = Byte (address + i); value = bind bytes (λ bs. done (slice_index bs i)) } ∷ byte_stores address bytes (i + 1) n

-- so many bytes are stored, on the boundary of their number
abbrev pub bytes_row : Profile → Reading (List ℕ) → ℕ → ℕ → ℕ → Row Ended
bytes_row p bytes count address next =
    bind (conditions_read p address count count Access.Store) (λ c.
    unless_refused (program_code c) (completed_row (byte_stores address bytes 0 count) next))

-- so many low bytes of a register
abbrev pub low_bytes_read : ℕ → ℕ → Reading (List ℕ)
low_bytes_read count r = read (Register r) (λ word. done (bytes_high_first count word))

abbrev pub store_row : Profile → Width → ℕ → ℕ → ℕ → Row Ended
store_row p width r1 address next = bytes_row p (low_bytes_read (bytes_of_width width) r1) (bytes_of_width width) address next

-- so many registers, from R1 on, stored at successive words, or loaded with them: 15 is followed by 0
abbrev pub stored_registers : ℕ → ℕ → ℕ → List Store
stored_registers r1 address zero = []
stored_registers r1 address (suc n) =
    stored_registers r1 address n ++ byte_stores (address + 4 * n) (low_bytes_read 4 ((r1 + n) % 16)) 0 4

abbrev pub loaded_registers : ℕ → ℕ → ℕ → List Store
loaded_registers r1 address zero = []
loaded_registers r1 address (suc n) =
    loaded_registers r1 address n ++ record { place = Register ((r1 + n) % 16); value = number_read (address + 4 * n) 4 } ∷ []

abbrev pub words_row : Profile → ℕ → ℕ → ℕ → Access → List Store → ℕ → Row Ended
words_row p r1 r3 address kind stores next =
    bind (conditions_read p address 4 (4 * register_count r1 r3) kind) (λ c. unless_refused (program_code c) (completed_row stores next))

abbrev pub store_multiple_row : Profile → ℕ → ℕ → ℕ → ℕ → Row Ended
store_multiple_row p r1 r3 address next = words_row p r1 r3 address Access.Store (stored_registers r1 address (register_count r1 r3)) next

abbrev pub load_multiple_row : Profile → ℕ → ℕ → ℕ → ℕ → Row Ended
load_multiple_row p r1 r3 address next = words_row p r1 r3 address Access.Fetch (loaded_registers r1 address (register_count r1 r3)) next
