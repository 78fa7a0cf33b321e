-- The instructions of an expression (gdb manual, "The GDB Agent Expression Mechanism", "Bytecode Descriptions").
use Rattle.std.specs.Prelude.{ℕ, nat_eq, Option, None, Some, List, [], ◌∷◌, find, option_map}
use Rattle.s360_condition.specs.declared.instruction.Binary.TheVariants.{Add, Sub, Mul, DivSigned, DivUnsigned, RemSigned, RemUnsigned, Lsh, RshSigned}
use Rattle.s360_condition.specs.declared.instruction.Binary.TheVariants.{RshUnsigned, BitAnd, BitOr, BitXor, Equal, LessSigned, LessUnsigned}
use Rattle.s360_condition.specs.declared.instruction.Unary.TheVariants.{LogNot, BitNot, Ext, ZeroExt}
use Rattle.s360_condition.specs.declared.instruction.Width.{Width}
use Rattle.s360_condition.specs.declared.instruction.Width.TheVariants.{Ref8, Ref16, Ref32, Ref64}
use Rattle.s360_condition.specs.declared.instruction.Instruction.{Instruction}
use Rattle.s360_condition.specs.declared.instruction.Instruction.TheVariants.{Binary, Unary, Ref, Const, Reg, Pick, Pop, Swap, Rot, IfGoto, Goto, End}

-- the code of an instruction, how many bytes of operand stand behind it, and the instruction with that operand
pub record Bytecode : Type 0 where
  pub code : ℕ
  pub operand_bytes : ℕ
  pub instruction : ℕ → Instruction

-- an instruction that has no operand
abbrev pub plain : ℕ → Instruction → Bytecode
plain code instruction = record { code = code; operand_bytes = 0; instruction = λ _. instruction }

-- one whose operand has so many bytes
abbrev pub wide : ℕ → ℕ → (ℕ → Instruction) → Bytecode
wide code operand_bytes instruction = record { code = code; operand_bytes = operand_bytes; instruction = instruction }

-- all that are known; `dup` is `pick 0`
abbrev pub bytecodes : List Bytecode
bytecodes =
    plain 0x02 (Binary Add)
    ∷ plain 0x03 (Binary Sub)
    ∷ plain 0x04 (Binary Mul)
    ∷ plain 0x05 (Binary DivSigned)
    ∷ plain 0x06 (Binary DivUnsigned)
    ∷ plain 0x07 (Binary RemSigned)
    ∷ plain 0x08 (Binary RemUnsigned)
    ∷ plain 0x09 (Binary Lsh)
    ∷ plain 0x0A (Binary RshSigned)
    ∷ plain 0x0B (Binary RshUnsigned)
    ∷ plain 0x0E (Unary LogNot)
    ∷ plain 0x0F (Binary BitAnd)
    ∷ plain 0x10 (Binary BitOr)
    ∷ plain 0x11 (Binary BitXor)
    ∷ plain 0x12 (Unary BitNot)
    ∷ plain 0x13 (Binary Equal)
    ∷ plain 0x14 (Binary LessSigned)
    ∷ plain 0x15 (Binary LessUnsigned)
    ∷ wide 0x16 1 (λ n. Unary (Ext n))
    ∷ plain 0x17 (Ref Ref8)
    ∷ plain 0x18 (Ref Ref16)
    ∷ plain 0x19 (Ref Ref32)
    ∷ plain 0x1A (Ref Ref64)
    ∷ wide 0x20 2 IfGoto
    ∷ wide 0x21 2 Goto
    ∷ wide 0x22 1 Const
    ∷ wide 0x23 2 Const
    ∷ wide 0x24 4 Const
    ∷ wide 0x25 8 Const
    ∷ wide 0x26 2 Reg
    ∷ plain 0x27 End
    ∷ plain 0x28 (Pick 0)
    ∷ plain 0x29 Pop
    ∷ wide 0x2A 1 (λ n. Unary (ZeroExt n))
    ∷ plain 0x2B Swap
    ∷ wide 0x32 1 Pick
    ∷ plain 0x33 Rot
    ∷ []

-- the one of a code
abbrev pub bytecode_of : ℕ → Option Bytecode
bytecode_of code = find (λ b. nat_eq b.code code) bytecodes

abbrev pub bytes_behind : Option Bytecode → ℕ
bytes_behind (Some bytecode) = bytecode.operand_bytes
bytes_behind None = 0

-- how many bytes of operand stand behind a code; 0 behind one that is not known
unfoldable pub operand_bytes : ℕ → ℕ
operand_bytes code = bytes_behind (bytecode_of code)

-- the instruction of a code with an operand, if it is known
unfoldable pub instruction_with : ℕ → ℕ → Option Instruction
instruction_with code operand = option_map (λ b. b.instruction operand) (bytecode_of code)

-- how many bytes a reference fetches
abbrev pub bytes_of_width : Width → ℕ
bytes_of_width Ref8 = 1
bytes_of_width Ref16 = 2
bytes_of_width Ref32 = 4
bytes_of_width Ref64 = 8

-- the offset that a jump may go on at
abbrev pub jump_of : Instruction → Option ℕ
jump_of (IfGoto to) = Some to
jump_of (Goto to) = Some to
jump_of instruction = None
