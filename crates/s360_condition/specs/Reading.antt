-- The reading of bytes as an expression (gdb manual, "The GDB Agent Expression Mechanism", "Bytecode Descriptions"). An
-- operand is a number, whose most significant byte stands first. That jumps go forward alone is (own profile): gdb makes
-- no others, and so an evaluation ends.
use Rattle.std.specs.Prelude.{◌≡◌, ◌⊎◌, ℕ, zero, suc, ◌+◌, ◌*◌, nat_le, nat_eq, Bool, true, if◌then◌else◌}
use Rattle.std.specs.Prelude.{Option, None, Some, Result, Ok, Err, List, [], ◌∷◌, take, length}
use Rattle.std.specs.List.{fold, list_any}
use Rattle.s360_condition.specs.declared.fault.ExpressionFault.{ExpressionFault}
use Rattle.s360_condition.specs.declared.fault.ExpressionFault.TheVariants.{TooLong, UnknownCode, CutOff, AstrayJump, Memory}
use Rattle.s360_condition.specs.declared.instruction.Instruction.{Instruction}
use Rattle.s360_condition.specs.declared.instruction.Placed.{Placed}
use Rattle.s360_condition.specs.Instructions.{operand_bytes, instruction_with, jump_of}

-- the number that bytes stand for, the most significant first
abbrev pub big_endian : List ℕ → ℕ
big_endian bytes = fold (λ number byte. number * 256 + byte) 0 bytes

-- an expression, or why bytes are none
abbrev pub Reading : Type 0
Reading = Result (List Placed) ExpressionFault

abbrev pub known : ℕ → ℕ → Option Instruction → Result (Instruction × ℕ) ExpressionFault
known at operand_bytes (Some instruction) = Ok (instruction, operand_bytes)
known at operand_bytes None = Err (UnknownCode at)

-- the instruction at an offset, from its code and the bytes behind it, and how many bytes its operand has
abbrev pub instruction_at : ℕ → ℕ → List ℕ → Result (Instruction × ℕ) ExpressionFault
instruction_at at code bytes =
    let count = operand_bytes code
    in if nat_le count (length bytes) then known at count (instruction_with code (big_endian (take count bytes)))
    else Err (CutOff at)

-- a first instruction before others
abbrev pub before : Placed → Reading → Reading
before first (Ok more) = Ok (first ∷ more)
before first (Err f) = Err f

-- an instruction at an offset, and then what is read behind its operand
abbrev pub followed : ℕ → Result (Instruction × ℕ) ExpressionFault → (ℕ → Reading) → Reading
followed at (Ok (instruction, operand_bytes)) behind = before (record { at = at; instruction = instruction }) (behind operand_bytes)
followed at (Err f) behind = Err f

-- the instructions of the bytes from an offset on, of which the first so many are an operand's
abbrev pub instructions_in : List ℕ → ℕ → ℕ → Reading
instructions_in [] at operand = Ok []
instructions_in (byte ∷ bytes) at (suc operand) = instructions_in bytes (at + 1) operand
instructions_in (code ∷ bytes) at zero = followed at (instruction_at at code bytes) (instructions_in bytes (at + 1))

-- a jump goes to an instruction further on
abbrev pub goes_on : Option ℕ → List Placed → Bool
goes_on None more = true
goes_on (Some to) more = list_any (λ p. nat_eq p.at to) more

-- the offset of the first jump that doesn't
abbrev pub first_astray : List Placed → Option ℕ
first_astray [] = None
first_astray (p ∷ more) = if goes_on (jump_of p.instruction) more then first_astray more else Some p.at

abbrev pub with_jumps : List Placed → Option ℕ → Reading
with_jumps instructions None = Ok instructions
with_jumps instructions (Some at) = Err (AstrayJump at)

abbrev pub and_jumps : Reading → Reading
and_jumps (Ok instructions) = with_jumps instructions (first_astray instructions)
and_jumps (Err f) = Err f

-- an expression has at most so many bytes (own profile)
abbrev pub most_bytes : ℕ
most_bytes = 4096

-- the expression that bytes are, or the first reason why they are none
abbrev pub reading_of : List ℕ → Reading
reading_of bytes = if nat_le (length bytes) most_bytes then and_jumps (instructions_in bytes 0 0) else Err TooLong

-- a reading fails by this, or memory is wanting
abbrev pub FailsBy : Reading → ExpressionFault → Type 0
FailsBy reading fault = (reading ≡ Err fault) ⊎ (fault ≡ Memory)

-- the reading is answered, or want of memory
abbrev pub Reads : Reading → Reading → Type 0
Reads reading result = (result ≡ reading) ⊎ (result ≡ Err Memory)
