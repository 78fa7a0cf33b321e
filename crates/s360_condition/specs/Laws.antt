-- What the definitions come to.
use Rattle.std.specs.Prelude.{◌≡◌, ℕ, zero, suc, ◌+◌, nat_lt, if◌then◌else◌, Result, Ok, Err, List, [], drop, length, slice_index}
use Rattle.s360_condition.specs.declared.fault.EvaluationFault.TheVariants.{NoEnd}
use Rattle.s360_condition.specs.declared.fault.ExpressionFault.{ExpressionFault}
use Rattle.s360_condition.specs.declared.instruction.Instruction.{Instruction}
use Rattle.s360_condition.specs.declared.instruction.Placed.{Placed}
use Rattle.s360_condition.specs.Evaluation.{after_instruction, led_on, value_of}
use Rattle.s360_condition.specs.Reading.{instruction_at, reading_of}
use Rattle.s360_condition.specs.Target.{Target}
use Rattle.s360_condition.specs.Values.{Evaluated}

-- an instruction that stands at the pc is carried out, and sets it to the byte behind its operand or to where it jumps
abbrev pub stepped : Target → Result (Instruction × ℕ) ExpressionFault → ℕ → List ℕ → (ℕ → List ℕ → Evaluated ℕ) → Evaluated ℕ
stepped target (Ok (instruction, operand_bytes)) pc stack behind = led_on (after_instruction target instruction stack) (pc + 1 + operand_bytes) behind
stepped target (Err f) pc stack behind = Err NoEnd

-- the manual's machine over the bytes themselves, for at most so many steps: at the pc stands a code
abbrev pub run_by_pc : Target → List ℕ → ℕ → ℕ → List ℕ → Evaluated ℕ
run_by_pc target bytes zero pc stack = Err NoEnd
run_by_pc target bytes (suc steps) pc stack =
    if nat_lt pc (length bytes)
    then stepped target (instruction_at pc (slice_index bytes pc) (drop (pc + 1) bytes)) pc stack (run_by_pc target bytes steps)
    else Err NoEnd

-- an expression has the value that this machine finds in its bytes, in no more steps than there are bytes
abbrev pub ExpressionsRunByThePc : Type 0
ExpressionsRunByThePc =
    (target : Target) (bytes : List ℕ) (instructions : List Placed)
    → reading_of bytes ≡ Ok instructions
    → value_of target instructions ≡ run_by_pc target bytes (length bytes) 0 []
