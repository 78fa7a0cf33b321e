-- Logical instructions, conversions and executes worked by hand, which the definitions have to give.
use Rattle.std.specs.Prelude.{◌≡◌, [], ◌∷◌, refl}
use Rattle.s360_fixed.specs.declared.ended.Ended.TheVariants.{Done, Program}
use Rattle.s360_fixed.specs.declared.program_code.ProgramCode.TheVariants.{Addressing, Data, Execute, FixedPointDivide}
use Rattle.s360_model.specs.Packed.{digits_value, packed_digits}
use Rattle.s360_logic.specs.Instruction.{instruction}
use Rattle.s360_logic.proofs.KnownInstructions.{known}

-- MVC: a byte that was stored is moved on
pub move : (instruction (known 0 0 0 0 0 0 (0xD2 ∷ 0x04 ∷ 0x00 ∷ 0x07 ∷ 0x00 ∷ 0x06 ∷ 0xC1 ∷ 0 ∷ 0 ∷ 0 ∷ 0 ∷ 0 ∷ []))).outcome
    ≡ record { ended = Done; core = known 6 0 0 0 0 0 (0xD2 ∷ 0x04 ∷ 0x00 ∷ 0x07 ∷ 0x00 ∷ 0x06 ∷ 0xC1 ∷ 0xC1 ∷ 0xC1 ∷ 0xC1 ∷ 0xC1 ∷ 0xC1 ∷ []) }
unfolding instruction
move = refl

-- MVN and MVZ: the low and the high half
pub move_numerics : (instruction (known 0 0 0 0 0 0 (0xD1 ∷ 0x00 ∷ 0x00 ∷ 0x06 ∷ 0x00 ∷ 0x07 ∷ 0x12 ∷ 0x34 ∷ []))).outcome.core
    ≡ known 6 0 0 0 0 0 (0xD1 ∷ 0x00 ∷ 0x00 ∷ 0x06 ∷ 0x00 ∷ 0x07 ∷ 0x14 ∷ 0x34 ∷ [])
unfolding instruction
move_numerics = refl

pub move_zones : (instruction (known 0 0 0 0 0 0 (0xD3 ∷ 0x00 ∷ 0x00 ∷ 0x06 ∷ 0x00 ∷ 0x07 ∷ 0x12 ∷ 0x34 ∷ []))).outcome.core
    ≡ known 6 0 0 0 0 0 (0xD3 ∷ 0x00 ∷ 0x00 ∷ 0x06 ∷ 0x00 ∷ 0x07 ∷ 0x32 ∷ 0x34 ∷ [])
unfolding instruction
move_zones = refl

-- XC of an operand with itself clears it
pub exclusive_or : (instruction (known 0x3000_0000 0 0 0 0 0 (0xD7 ∷ 0x01 ∷ 0x00 ∷ 0x06 ∷ 0x00 ∷ 0x06 ∷ 0x12 ∷ 0x34 ∷ []))).outcome.core
    ≡ known 6 0 0 0 0 0 (0xD7 ∷ 0x01 ∷ 0x00 ∷ 0x06 ∷ 0x00 ∷ 0x06 ∷ 0 ∷ 0 ∷ [])
unfolding instruction
exclusive_or = refl

-- OC: the condition code is that of all bytes
pub or : (instruction (known 0 0 0 0 0 0 (0xD6 ∷ 0x01 ∷ 0x00 ∷ 0x06 ∷ 0x00 ∷ 0x08 ∷ 0x12 ∷ 0 ∷ 0 ∷ 0 ∷ []))).outcome.core
    ≡ known 0x1000_0006 0 0 0 0 0 (0xD6 ∷ 0x01 ∷ 0x00 ∷ 0x06 ∷ 0x00 ∷ 0x08 ∷ 0x12 ∷ 0 ∷ 0 ∷ 0 ∷ [])
unfolding instruction
or = refl

-- CLC: the first bytes that differ
pub compare : (instruction (known 0 0 0 0 0 0 (0xD5 ∷ 0x01 ∷ 0x00 ∷ 0x06 ∷ 0x00 ∷ 0x08 ∷ 0x12 ∷ 0xFF ∷ 0x13 ∷ 0 ∷ []))).outcome.core
    ≡ known 0x1000_0006 0 0 0 0 0 (0xD5 ∷ 0x01 ∷ 0x00 ∷ 0x06 ∷ 0x00 ∷ 0x08 ∷ 0x12 ∷ 0xFF ∷ 0x13 ∷ 0 ∷ [])
unfolding instruction
compare = refl

-- TM: mixed bits
pub test_under_mask : (instruction (known 0 0 0 0 0 0 (0x91 ∷ 0x12 ∷ 0x00 ∷ 0x00 ∷ []))).outcome.core ≡ known 0x1000_0004 0 0 0 0 0 (0x91 ∷ 0x12 ∷ 0x00 ∷ 0x00 ∷ [])
unfolding instruction
test_under_mask = refl

-- TS: of its own code, whose first bit is one
pub test_and_set : (instruction (known 0 0 0 0 0 0 (0x93 ∷ 0x00 ∷ 0x00 ∷ 0x00 ∷ []))).outcome.core ≡ known 0x1000_0004 0 0 0 0 0 (0xFF ∷ 0x00 ∷ 0x00 ∷ 0x00 ∷ [])
unfolding instruction
test_and_set = refl

-- TR
pub translate : (instruction (known 0 0 0 0 0 0 (0xDC ∷ 0x02 ∷ 0x00 ∷ 0x06 ∷ 0x00 ∷ 0x09 ∷ 0 ∷ 2 ∷ 1 ∷ 0x0A ∷ 0x0B ∷ 0x0C ∷ []))).outcome.core
    ≡ known 6 0 0 0 0 0 (0xDC ∷ 0x02 ∷ 0x00 ∷ 0x06 ∷ 0x00 ∷ 0x09 ∷ 0x0A ∷ 0x0C ∷ 0x0B ∷ 0x0A ∷ 0x0B ∷ 0x0C ∷ [])
unfolding instruction
translate = refl

-- TRT: the second byte selects a byte that is not zero, before the last; the third selects one outside
pub translate_and_test : (instruction (known 0 0xFF00_0000 0 0 0 0 (0xDD ∷ 0x02 ∷ 0x00 ∷ 0x06 ∷ 0x00 ∷ 0x09 ∷ 1 ∷ 2 ∷ 3 ∷ 0 ∷ 0 ∷ 5 ∷ []))).outcome
    ≡ record { ended = Done; core = known 0x1000_0006 0xFF00_0007 5 0 0 0 (0xDD ∷ 0x02 ∷ 0x00 ∷ 0x06 ∷ 0x00 ∷ 0x09 ∷ 1 ∷ 2 ∷ 3 ∷ 0 ∷ 0 ∷ 5 ∷ []) }
unfolding instruction
translate_and_test = refl

-- MVO, PACK and UNPK
pub move_with_offset : (instruction (known 0 0 0 0 0 0 (0xF1 ∷ 0x21 ∷ 0x00 ∷ 0x06 ∷ 0x00 ∷ 0x09 ∷ 0 ∷ 0 ∷ 0x0C ∷ 0x12 ∷ 0x34 ∷ []))).outcome.core
    ≡ known 6 0 0 0 0 0 (0xF1 ∷ 0x21 ∷ 0x00 ∷ 0x06 ∷ 0x00 ∷ 0x09 ∷ 0x01 ∷ 0x23 ∷ 0x4C ∷ 0x12 ∷ 0x34 ∷ [])
unfolding instruction
move_with_offset = refl

pub pack : (instruction (known 0 0 0 0 0 0 (0xF2 ∷ 0x12 ∷ 0x00 ∷ 0x06 ∷ 0x00 ∷ 0x08 ∷ 0 ∷ 0 ∷ 0xF1 ∷ 0xF2 ∷ 0xC3 ∷ []))).outcome.core
    ≡ known 6 0 0 0 0 0 (0xF2 ∷ 0x12 ∷ 0x00 ∷ 0x06 ∷ 0x00 ∷ 0x08 ∷ 0x12 ∷ 0x3C ∷ 0xF1 ∷ 0xF2 ∷ 0xC3 ∷ [])
unfolding instruction
pack = refl

pub unpack : (instruction (known 0 0 0 0 0 0 (0xF3 ∷ 0x31 ∷ 0x00 ∷ 0x06 ∷ 0x00 ∷ 0x0A ∷ 0 ∷ 0 ∷ 0 ∷ 0 ∷ 0x12 ∷ 0x3C ∷ []))).outcome.core
    ≡ known 6 0 0 0 0 0 (0xF3 ∷ 0x31 ∷ 0x00 ∷ 0x06 ∷ 0x00 ∷ 0x0A ∷ 0xF0 ∷ 0xF1 ∷ 0xF2 ∷ 0xC3 ∷ 0x12 ∷ 0x3C ∷ [])
unfolding instruction
unpack = refl

-- CVD of minus 123, and in ASCII mode
pub convert_to_decimal : (instruction (known 0 0xFFFF_FF85 0 0 0 0 (0x4E ∷ 0x10 ∷ 0x00 ∷ 0x08 ∷ 0 ∷ 0 ∷ 0 ∷ 0 ∷ 0 ∷ 0 ∷ 0 ∷ 0 ∷ 0 ∷ 0 ∷ 0 ∷ 0 ∷ []))).outcome.core
    ≡ known 4 0xFFFF_FF85 0 0 0 0 (0x4E ∷ 0x10 ∷ 0x00 ∷ 0x08 ∷ 0 ∷ 0 ∷ 0 ∷ 0 ∷ 0 ∷ 0 ∷ 0 ∷ 0 ∷ 0 ∷ 0 ∷ 0x12 ∷ 0x3D ∷ [])
unfolding instruction packed_digits
convert_to_decimal = refl

-- CVB: 2147483648 does not fit; a digit A is none
pub too_large : (instruction (known 0 0 0 0 0 0 (0x4F ∷ 0x10 ∷ 0x00 ∷ 0x08 ∷ 0 ∷ 0 ∷ 0 ∷ 0 ∷ 0 ∷ 0 ∷ 0x02 ∷ 0x14 ∷ 0x74 ∷ 0x83 ∷ 0x64 ∷ 0x8C ∷ []))).outcome
    ≡ record { ended = Program FixedPointDivide; core = known 4 0x8000_0000 0 0 0 0 (0x4F ∷ 0x10 ∷ 0x00 ∷ 0x08 ∷ 0 ∷ 0 ∷ 0 ∷ 0 ∷ 0 ∷ 0 ∷ 0x02 ∷ 0x14 ∷ 0x74 ∷ 0x83 ∷ 0x64 ∷ 0x8C ∷ []) }
unfolding instruction digits_value
too_large = refl

pub bad_digit : (instruction (known 0 0 0 0 0 0 (0x4F ∷ 0x10 ∷ 0x00 ∷ 0x08 ∷ 0 ∷ 0 ∷ 0 ∷ 0 ∷ 0 ∷ 0 ∷ 0 ∷ 0 ∷ 0 ∷ 0 ∷ 0xA0 ∷ 0x0C ∷ []))).outcome.ended ≡ Program Data
unfolding instruction digits_value
bad_digit = refl

-- EX of MVC: two is ored into the length, and the subject stays
pub execute : (instruction (known 0 2 0 0 0 0 (0x44 ∷ 0x10 ∷ 0x00 ∷ 0x04 ∷ 0xD2 ∷ 0x00 ∷ 0x00 ∷ 0x0D ∷ 0x00 ∷ 0x0A ∷ 0xC1 ∷ 0xC2 ∷ 0xC3 ∷ 0 ∷ 0 ∷ 0 ∷ []))).outcome
    ≡ record { ended = Done; core = known 4 2 0 0 0 0 (0x44 ∷ 0x10 ∷ 0x00 ∷ 0x04 ∷ 0xD2 ∷ 0x00 ∷ 0x00 ∷ 0x0D ∷ 0x00 ∷ 0x0A ∷ 0xC1 ∷ 0xC2 ∷ 0xC3 ∷ 0xC1 ∷ 0xC2 ∷ 0xC3 ∷ []) }
unfolding instruction
execute = refl

pub execute_of_execute : (instruction (known 0 0 0 0 0 0 (0x44 ∷ 0x00 ∷ 0x00 ∷ 0x00 ∷ []))).outcome.ended ≡ Program Execute
unfolding instruction
execute_of_execute = refl

-- EX of BALR: the link has the address past the execute and its length
pub execute_of_a_link : (instruction (known 0 0 0x300 0 0 0 (0x44 ∷ 0x00 ∷ 0x00 ∷ 0x04 ∷ 0x05 ∷ 0x12 ∷ []))).outcome.core ≡ known 0x300 0x8000_0004 0x300 0 0 0 (0x44 ∷ 0x00 ∷ 0x00 ∷ 0x04 ∷ 0x05 ∷ 0x12 ∷ [])
unfolding instruction
execute_of_a_link = refl

-- a second operand outside comes before a protected first one
pub outside_before_protected : (instruction (known 0x0010_0000_0000_0000 0 0 0 0 0 (0xD2 ∷ 0x00 ∷ 0x00 ∷ 0x00 ∷ 0x0F ∷ 0xFF ∷ []))).outcome.ended ≡ Program Addressing
unfolding instruction
outside_before_protected = refl
