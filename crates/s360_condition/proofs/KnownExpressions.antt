-- Expressions that gdb 13.1 made, and what the manual says of them.
use Rattle.std.proofs.Common.{◌≡◌, ℕ, Ok, Err, List, [], ◌∷◌, ◌++◌, length, refl, replicate, true, false}
use Rattle.s360_condition.specs.Evaluation.{value_of, holds}
use Rattle.s360_condition.specs.Instructions.{operand_bytes, instruction_with}
use Rattle.s360_condition.specs.Laws.{run_by_pc}
use Rattle.s360_condition.specs.Reading.{reading_of}
use Rattle.s360_condition.specs.Target.{Target}
use Rattle.s360_condition.specs.Values.{Evaluated, binary_value, unary_value}
use Rattle.s360_condition.specs.declared.fault.EvaluationFault.TheVariants.{QuotientTooLarge}
use Rattle.s360_condition.specs.declared.fault.ExpressionFault.TheVariants.{UnknownCode, CutOff, AstrayJump}
use Rattle.s360_condition.specs.declared.instruction.Binary.TheVariants.{Sub, DivSigned, RemSigned, Lsh, RshSigned, Equal, LessSigned, LessUnsigned}
use Rattle.s360_condition.specs.declared.instruction.Instruction.{Instruction}
use Rattle.s360_condition.specs.declared.instruction.Instruction.TheVariants.{Binary, Unary, Const, Reg, End}
use Rattle.s360_condition.specs.declared.instruction.Placed.{Placed}
use Rattle.s360_condition.specs.declared.instruction.Unary.TheVariants.{Ext, ZeroExt}

abbrev placed : ℕ → Instruction → Placed
placed at instruction = record { at = at; instruction = instruction }

-- `$r3 == 3`, of which register 5 is r3
abbrev r3_is_3 : List ℕ
r3_is_3 = 0x26 ∷ 0x00 ∷ 0x05 ∷ 0x2A ∷ 0x20 ∷ 0x22 ∷ 0x03 ∷ 0x2A ∷ 0x20 ∷ 0x13 ∷ 0x27 ∷ []

abbrev r3_is_3_read : List Placed
r3_is_3_read =
    placed 0 (Reg 5) ∷ placed 3 (Unary (ZeroExt 32)) ∷ placed 5 (Const 3) ∷ placed 7 (Unary (ZeroExt 32)) ∷ placed 9 (Binary Equal) ∷ placed 10 End ∷ []

r3_is_read : reading_of r3_is_3 ≡ Ok r3_is_3_read
unfolding operand_bytes instruction_with
r3_is_read = refl

abbrev with_r3 : ℕ → Target
with_r3 word = record { registers = 0 ∷ 0 ∷ 0 ∷ 0 ∷ 0 ∷ word ∷ []; storage = [] }

three_is : value_of (with_r3 3) r3_is_3_read ≡ Ok 1
three_is = refl

four_is_none : holds (with_r3 4) r3_is_3_read ≡ false
four_is_none = refl

-- a target without the register: gdb is to look itself
none_holds : holds (record { registers = []; storage = [] }) r3_is_3_read ≡ true
none_holds = refl

-- `*(int *) 0x604 > 6 && ($r1 & 15) != 2`
abbrev word_and_r1 : List ℕ
word_and_r1 =
    0x23 ∷ 0x06 ∷ 0x04 ∷ 0x19 ∷ 0x16 ∷ 0x20 ∷ 0x22 ∷ 0x06 ∷ 0x2B ∷ 0x14 ∷ 0x20 ∷ 0x00 ∷ 0x10 ∷ 0x21 ∷ 0x00 ∷ 0x2B ∷ 0x26 ∷ 0x00 ∷ 0x03 ∷ 0x2A ∷ 0x20 ∷ 0x22 ∷ 0x0F ∷ 0x2A ∷ 0x20 ∷ 0x0F ∷ 0x22 ∷ 0x02 ∷ 0x2A ∷ 0x20 ∷ 0x13 ∷ 0x0E ∷ 0x20 ∷ 0x00 ∷ 0x26 ∷ 0x21 ∷ 0x00 ∷ 0x2B ∷ 0x22 ∷ 0x01 ∷ 0x21 ∷ 0x00 ∷ 0x2D ∷ 0x22 ∷ 0x00 ∷ 0x27 ∷ []

-- r1 and the word at 604
abbrev with_word : ℕ → ℕ → Target
with_word r1 low_byte = record { registers = 0 ∷ 0 ∷ 0 ∷ r1 ∷ []; storage = replicate 0x604 0 ++ 0 ∷ 0 ∷ 0 ∷ low_byte ∷ [] }

abbrev value_by_pc : Target → List ℕ → Evaluated ℕ
value_by_pc target bytes = run_by_pc target bytes (length bytes) 0 []

both_are : value_by_pc (with_word 0x13 7) word_and_r1 ≡ Ok 1
unfolding operand_bytes instruction_with
both_are = refl

word_is_6 : value_by_pc (with_word 0x13 6) word_and_r1 ≡ Ok 0
unfolding operand_bytes instruction_with
word_is_6 = refl

r1_ends_with_2 : value_by_pc (with_word 0x12 7) word_and_r1 ≡ Ok 0
unfolding operand_bytes instruction_with
r1_ends_with_2 = refl

-- `$pc == 0x206 && *(unsigned char *) 0x607 == 9`, of which register 1 has the pc in its low 31 bits
abbrev pc_and_byte : List ℕ
pc_and_byte =
    0x26 ∷ 0x00 ∷ 0x01 ∷ 0x2A ∷ 0x1F ∷ 0x2A ∷ 0x20 ∷ 0x23 ∷ 0x02 ∷ 0x06 ∷ 0x13 ∷ 0x20 ∷ 0x00 ∷ 0x11 ∷ 0x21 ∷ 0x00 ∷ 0x23 ∷ 0x23 ∷ 0x06 ∷ 0x07 ∷ 0x17 ∷ 0x22 ∷ 0x09 ∷ 0x13 ∷ 0x20 ∷ 0x00 ∷ 0x1E ∷ 0x21 ∷ 0x00 ∷ 0x23 ∷ 0x22 ∷ 0x01 ∷ 0x21 ∷ 0x00 ∷ 0x25 ∷ 0x22 ∷ 0x00 ∷ 0x27 ∷ []

-- the address word and the byte at 607
abbrev with_pc : ℕ → ℕ → Target
with_pc address_word byte = record { registers = 0 ∷ address_word ∷ []; storage = replicate 0x607 0 ++ byte ∷ [] }

pc_and_byte_are : value_by_pc (with_pc 0x8000_0206 9) pc_and_byte ≡ Ok 1
unfolding operand_bytes instruction_with
pc_and_byte_are = refl

byte_is_8 : value_by_pc (with_pc 0x8000_0206 8) pc_and_byte ≡ Ok 0
unfolding operand_bytes instruction_with
byte_is_8 = refl

-- the orders of operands, and signs
less_by_one : binary_value Sub 2 3 ≡ Ok 0xFFFF_FFFF_FFFF_FFFF
less_by_one = refl

minus_one_is_less : binary_value LessSigned 0xFFFF_FFFF_FFFF_FFFF 0 ≡ Ok 1
minus_one_is_less = refl

minus_one_is_most : binary_value LessUnsigned 0xFFFF_FFFF_FFFF_FFFF 0 ≡ Ok 0
minus_one_is_most = refl

-- -7 by 2
toward_zero : binary_value DivSigned 0xFFFF_FFFF_FFFF_FFF9 2 ≡ Ok 0xFFFF_FFFF_FFFF_FFFD
toward_zero = refl

sign_of_dividend : binary_value RemSigned 0xFFFF_FFFF_FFFF_FFF9 2 ≡ Ok 0xFFFF_FFFF_FFFF_FFFF
sign_of_dividend = refl

too_large : binary_value DivSigned 0x8000_0000_0000_0000 0xFFFF_FFFF_FFFF_FFFF ≡ Err QuotientTooLarge
too_large = refl

one_to_the_top : binary_value Lsh 3 63 ≡ Ok 0x8000_0000_0000_0000
one_to_the_top = refl

copies_of_the_top : binary_value RshSigned 0x8000_0000_0000_0000 60 ≡ Ok 0xFFFF_FFFF_FFFF_FFF8
copies_of_the_top = refl

minus_128 : unary_value (Ext 8) 0x1234_5680 ≡ Ok 0xFFFF_FFFF_FFFF_FF80
minus_128 = refl

nothing_left : unary_value (ZeroExt 0) 0x1234_5680 ≡ Ok 0
nothing_left = refl

-- faults: a code that is unknown, an operand that is cut off, and a jump back, into an operand and to the end
unknown : reading_of (0x27 ∷ 0x01 ∷ []) ≡ Err (UnknownCode 1)
unfolding operand_bytes instruction_with
unknown = refl

cut_off : reading_of (0x26 ∷ 0x00 ∷ []) ≡ Err (CutOff 0)
unfolding operand_bytes instruction_with
cut_off = refl

jumps_back : reading_of (0x27 ∷ 0x21 ∷ 0x00 ∷ 0x00 ∷ 0x27 ∷ []) ≡ Err (AstrayJump 1)
unfolding operand_bytes instruction_with
jumps_back = refl

jumps_into_an_operand : reading_of (0x21 ∷ 0x00 ∷ 0x04 ∷ 0x22 ∷ 0x27 ∷ 0x27 ∷ []) ≡ Err (AstrayJump 0)
unfolding operand_bytes instruction_with
jumps_into_an_operand = refl

jumps_to_the_end : reading_of (0x21 ∷ 0x00 ∷ 0x03 ∷ []) ≡ Err (AstrayJump 0)
unfolding operand_bytes instruction_with
jumps_to_the_end = refl
