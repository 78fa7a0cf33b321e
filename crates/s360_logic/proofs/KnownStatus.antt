-- Status switching worked by hand, which the definitions have to give. Each instruction stands at address 0.
use Rattle.std.specs.Prelude.{◌≡◌, ℕ, true, [], ◌∷◌, refl}
use Rattle.s360_model.specs.Core.{Core, core_with_key}
use Rattle.s360_psw.specs.declared.instruction_length.InstructionLength.TheVariants.{TwoHalfwords}
use Rattle.s360_fixed.specs.declared.ended.Ended.TheVariants.{Done, Program, Svc}
use Rattle.s360_fixed.specs.declared.program_code.ProgramCode.TheVariants.{Addressing, Privileged, Protection, Specification}
use Rattle.s360_logic.specs.Instruction.{instruction}
use Rattle.s360_logic.proofs.KnownInstructions.{known}

-- the problem state
abbrev problem : ℕ
problem = 0x0001_0000_0000_0000

-- SPM: condition code 3 and the mask of the fixed-point overflow; bits 0 and 1 of R1 are ignored
set_program_mask : (instruction (known 0x1700_0000 0xF800_0000 0 0 0 0 (0x04 ∷ 0x10 ∷ []))).outcome
    ≡ record { ended = Done; core = known 0x3800_0002 0xF800_0000 0 0 0 0 (0x04 ∷ 0x10 ∷ []) }
unfolding instruction
set_program_mask = refl

-- SSK: the key of block 0; bits 0 to 7 of R2 are ignored
set_storage_key : (instruction (known 0 0xFF 0xFF00_0700 0 0 0 (0x08 ∷ 0x12 ∷ []))).outcome
    ≡ record { ended = Done; core = core_with_key 0 0xF (known 2 0xFF 0xFF00_0700 0 0 0 (0x08 ∷ 0x12 ∷ [])) }
unfolding instruction
set_storage_key = refl

-- ISK: bits 28 to 31 become zero
insert_storage_key : (instruction (core_with_key 0 0xF (known 0 0 0 0x1234_5678 0 0 (0x09 ∷ 0x32 ∷ [])))).outcome
    ≡ record { ended = Done; core = core_with_key 0 0xF (known 2 0 0 0x1234_56F0 0 0 (0x09 ∷ 0x32 ∷ [])) }
unfolding instruction
insert_storage_key = refl

-- the same where fetches are protected: bit 28 is the fetch bit, which the block's number has as 16
abbrev fetching : Core → Core
fetching m = record m { storage = record m.storage { fetch_protection = true } }

set_fetch_bit : (instruction (fetching (known 0 0x58 0 0 0 0 (0x08 ∷ 0x12 ∷ [])))).outcome
    ≡ record { ended = Done; core = core_with_key 0 21 (fetching (known 2 0x58 0 0 0 0 (0x08 ∷ 0x12 ∷ []))) }
unfolding instruction
set_fetch_bit = refl

insert_fetch_bit : (instruction (core_with_key 0 21 (fetching (known 0 0 0 0x1234_5677 0 0 (0x09 ∷ 0x32 ∷ []))))).outcome
    ≡ record { ended = Done; core = core_with_key 0 21 (fetching (known 2 0 0 0x1234_5658 0 0 (0x09 ∷ 0x32 ∷ []))) }
unfolding instruction
insert_fetch_bit = refl

-- LR with the key 1 of the PSW from a block with key 2: a fetch bit of one keeps it from being fetched
abbrev key_1 : ℕ
key_1 = 0x0010_0000_0000_0000

fetch_bit_protects : (instruction (core_with_key 0 18 (fetching (known key_1 0 5 0 0 0 (0x18 ∷ 0x12 ∷ []))))).outcome.ended ≡ Program Protection
unfolding instruction
fetch_bit_protects = refl

fetch_bit_of_zero : (instruction (core_with_key 0 2 (fetching (known key_1 0 5 0 0 0 (0x18 ∷ 0x12 ∷ []))))).outcome.ended ≡ Done
unfolding instruction
fetch_bit_of_zero = refl

fetch_with_the_key : (instruction (core_with_key 0 17 (fetching (known key_1 0 5 0 0 0 (0x18 ∷ 0x12 ∷ []))))).outcome.ended ≡ Done
unfolding instruction
fetch_with_the_key = refl

-- a one in bits 28 to 31 comes before a block outside
low_bits : (instruction (known 0 0 0x0000_0801 0 0 0 (0x08 ∷ 0x12 ∷ []))).outcome.ended ≡ Program Specification
unfolding instruction
low_bits = refl

block_outside : (instruction (known 0 0 0x0000_0800 0 0 0 (0x09 ∷ 0x12 ∷ []))).outcome.ended ≡ Program Addressing
unfolding instruction
block_outside = refl

-- SVC: its code is its second byte
supervisor_call : (instruction (known 0 0 0 0 0 0 (0x0A ∷ 0xF5 ∷ []))).outcome ≡ record { ended = Svc 0xF5; core = known 0 0 0 0 0 0 (0x0A ∷ 0xF5 ∷ []) }
unfolding instruction
supervisor_call = refl

-- SSM: bits 0 to 7 and no others
set_system_mask : (instruction (known 0x0112_0000_3F00_0000 0 0 0 0 0 (0x80 ∷ 0x00 ∷ 0x00 ∷ 0x00 ∷ []))).outcome
    ≡ record { ended = Done; core = known 0x8012_0000_3F00_0004 0 0 0 0 0 (0x80 ∷ 0x00 ∷ 0x00 ∷ 0x00 ∷ []) }
unfolding instruction
set_system_mask = refl

-- LPSW: all but bits 16 to 33, into the wait state
load_psw : (instruction (known 0 0 0 0 0 0 (0x82 ∷ 0x00 ∷ 0x00 ∷ 0x08 ∷ 0 ∷ 0 ∷ 0 ∷ 0 ∷ 0x00 ∷ 0x02 ∷ 0xFF ∷ 0xFF ∷ 0xF8 ∷ 0x00 ∷ 0x03 ∷ 0x01 ∷ []))).outcome
    ≡ record { ended = Done; core = known 0x0002_0000_3800_0301 0 0 0 0 0 (0x82 ∷ 0x00 ∷ 0x00 ∷ 0x08 ∷ 0 ∷ 0 ∷ 0 ∷ 0 ∷ 0x00 ∷ 0x02 ∷ 0xFF ∷ 0xFF ∷ 0xF8 ∷ 0x00 ∷ 0x03 ∷ 0x01 ∷ []) }
unfolding instruction
load_psw = refl

off_boundary : (instruction (known 0 0 0 0 0 0 (0x82 ∷ 0x00 ∷ 0x0F ∷ 0xFC ∷ []))).outcome.ended ≡ Program Specification
unfolding instruction
off_boundary = refl

-- in the problem state a privileged instruction comes before its operands
privileged_key : (instruction (known problem 0 0x0000_0801 0 0 0 (0x08 ∷ 0x12 ∷ []))).outcome.ended ≡ Program Privileged
unfolding instruction
privileged_key = refl

privileged_load : (instruction (known problem 0 0 0 0 0 (0x82 ∷ 0x00 ∷ 0x0F ∷ 0xFC ∷ []))).outcome.ended ≡ Program Privileged
unfolding instruction
privileged_load = refl

privileged_input_output : (instruction (known problem 0 0 0 0 0 (0x9F ∷ 0x00 ∷ 0x00 ∷ 0x00 ∷ []))).outcome.ended ≡ Program Privileged
unfolding instruction
privileged_input_output = refl

-- SPM is not privileged
program_mask_of_a_problem : (instruction (known problem 0x3800_0000 0 0 0 0 (0x04 ∷ 0x10 ∷ []))).outcome.core.psw ≡ 0x0001_0000_3800_0002
unfolding instruction
program_mask_of_a_problem = refl

-- EX of SVC: the low byte of R1 is ored into the code, and the length and the next address are the execute's
execute_of_a_call : (instruction (known 0 0x0A05 0 0 0 0 (0x44 ∷ 0x10 ∷ 0x00 ∷ 0x04 ∷ 0x0A ∷ 0xF0 ∷ [])))
    ≡ record { outcome = record { ended = Svc 0xF5; core = known 0 0x0A05 0 0 0 0 (0x44 ∷ 0x10 ∷ 0x00 ∷ 0x04 ∷ 0x0A ∷ 0xF0 ∷ []) }; next_address = 4; instruction_length = TwoHalfwords }
unfolding instruction
execute_of_a_call = refl
