-- The rows that store registers and load several of them (GA22-6821, "Fixed-Point Arithmetic" and "Logical Operations").
use Rattle.std.specs.Prelude.{ℕ, zero, suc, ◌+◌, ◌-◌, ◌*◌, ◌%◌, List, length, slice_index}
use Rattle.std.specs.Int.{bytes_high_first}
use Rattle.s360_model.specs.{Core.Core, Core.core_with_bytes, Core.core_with_psw, Core.core_with_word, Psw.with_instruction_address, Storage.word_at}
use Rattle.s360_store.specs.declared.protection.Access.{Access}
use Rattle.s360_fixed.specs.{declared.ended.Ended.TheVariants.Done, Outcomes.unless_met, ProgramCodes.Conditions, View.View, View.Outcome, View.register_of}
use Rattle.s360_fixed.specs.{declared.second_operand.Width.Width, Operands.access_conditions, Operands.bytes_of_width}

-- the PSW after an instruction that sets no condition code and does not branch
abbrev pub next_psw : View → ℕ
next_psw v = with_instruction_address v.core.psw v.next_address

-- the instruction is completed with this core, and the program goes on with the next
abbrev pub completed : View → Core → Outcome
completed v m = record { ended = Done; core = core_with_psw (next_psw v) m }

-- bytes are stored, on the boundary of their number
abbrev pub bytes_outcome : List ℕ → View → ℕ → Outcome
bytes_outcome bytes v address =
    unless_met (access_conditions v.core address (length bytes) (length bytes) Access.Store) v.core (completed v (core_with_bytes address bytes v.core))

-- so many low bytes of R1 are stored
abbrev pub store_outcome : Width → View → ℕ → ℕ → Outcome
store_outcome width v r1 address = bytes_outcome (bytes_high_first (bytes_of_width width) (register_of v r1)) v address

-- how many registers after another one is, 15 followed by 0
abbrev pub register_distance : ℕ → ℕ → ℕ
register_distance from to = (to + 16 - from) % 16

-- how many registers there are from R1 up to R3
abbrev pub register_count : ℕ → ℕ → ℕ
register_count r1 r3 = register_distance r1 r3 + 1

-- the core with so many registers, from R1 on, at successive words
abbrev pub with_registers_stored : List ℕ → ℕ → ℕ → ℕ → Core → Core
with_registers_stored registers r1 address zero m = m
with_registers_stored registers r1 address (suc n) m =
    core_with_bytes (address + 4 * n) (bytes_high_first 4 (slice_index registers ((r1 + n) % 16)))
    (with_registers_stored registers r1 address n m)

-- the core with so many registers, from R1 on, loaded with successive words
abbrev pub with_registers_loaded : List ℕ → ℕ → ℕ → ℕ → Core → Core
with_registers_loaded bytes r1 address zero m = m
with_registers_loaded bytes r1 address (suc n) m =
    core_with_word ((r1 + n) % 16) (word_at bytes (address + 4 * n)) (with_registers_loaded bytes r1 address n m)

-- what keeps the words of registers R1 up to R3 from being used: they begin on the boundary of a word
abbrev pub words_conditions : View → ℕ → ℕ → ℕ → Access → Conditions
words_conditions v r1 r3 address kind = access_conditions v.core address 4 (4 * register_count r1 r3) kind

abbrev pub store_multiple_outcome : View → ℕ → ℕ → ℕ → Outcome
store_multiple_outcome v r1 r3 address =
    unless_met (words_conditions v r1 r3 address Access.Store) v.core
    (completed v (with_registers_stored v.core.registers r1 address (register_count r1 r3) v.core))

abbrev pub load_multiple_outcome : View → ℕ → ℕ → ℕ → Outcome
load_multiple_outcome v r1 r3 address =
    unless_met (words_conditions v r1 r3 address Access.Fetch) v.core
    (completed v (with_registers_loaded v.core.storage.bytes r1 address (register_count r1 r3) v.core))
