-- The evaluation of an expression (gdb manual, "The GDB Agent Expression Mechanism", "Bytecode Descriptions"). A stack is
-- the list of its values, the top first.
use Rattle.std.specs.Prelude.{◌≡◌, ℕ, nat_eq, nat_le, nat_lt, Bool, true, not, if◌then◌else◌, Ok, Err, List, [], ◌∷◌, length, slice_get, ok_or}
use Rattle.s360_condition.specs.declared.evaluation.Next.{Next}
use Rattle.s360_condition.specs.declared.evaluation.Next.TheVariants.{Following, At, Ended}
use Rattle.s360_condition.specs.declared.fault.EvaluationFault.TheVariants.{StackUnderflow, StackOverflow, NoEnd}
use Rattle.s360_condition.specs.declared.instruction.Instruction.{Instruction}
use Rattle.s360_condition.specs.declared.instruction.Instruction.TheVariants.{Binary, Unary, Ref, Const, Reg, Pick, Pop, Swap, Rot, IfGoto, Goto, End}
use Rattle.s360_condition.specs.declared.instruction.Placed.{Placed}
use Rattle.s360_condition.specs.Instructions.{bytes_of_width}
use Rattle.s360_condition.specs.Target.{Target, register_value, fetched}
use Rattle.s360_condition.specs.Values.{Evaluated, binary_value, unary_value}

-- a stack has at most so many values (own profile)
abbrev pub most_values : ℕ
most_values = 64

-- on to the following instruction with this stack, if there is room for it
abbrev pub onwards : List ℕ → Evaluated (Next × List ℕ)
onwards stack = if nat_le (length stack) most_values then Ok (Following, stack) else Err StackOverflow

-- and with a value on a stack
abbrev pub onwards_with : Evaluated ℕ → List ℕ → Evaluated (Next × List ℕ)
onwards_with (Ok value) stack = onwards (value ∷ stack)
onwards_with (Err f) stack = Err f

-- what an instruction makes of a stack, and where it leads
abbrev pub after_instruction : Target → Instruction → List ℕ → Evaluated (Next × List ℕ)
after_instruction target (Binary operation) (b ∷ a ∷ rest) = onwards_with (binary_value operation a b) rest
after_instruction target (Unary operation) (a ∷ rest) = onwards_with (unary_value operation a) rest
after_instruction target (Ref width) (address ∷ rest) = onwards_with (fetched target address (bytes_of_width width)) rest
after_instruction target (Const n) stack = onwards (n ∷ stack)
after_instruction target (Reg number) stack = onwards_with (register_value target number) stack
after_instruction target (Pick depth) stack = onwards_with (ok_or (slice_get stack depth) StackUnderflow) stack
after_instruction target Pop (a ∷ rest) = Ok (Following, rest)
after_instruction target Swap (b ∷ a ∷ rest) = onwards (a ∷ b ∷ rest)
after_instruction target Rot (c ∷ b ∷ a ∷ rest) = onwards (b ∷ a ∷ c ∷ rest)
after_instruction target (IfGoto to) (a ∷ rest) = Ok (if nat_eq a 0 then Following else At to, rest)
after_instruction target (Goto to) stack = Ok (At to, stack)
after_instruction target End (a ∷ rest) = Ok (Ended a, rest)
after_instruction target instruction stack = Err StackUnderflow

-- an instruction led there and left this stack, or failed, as it has to
abbrev pub Leaves : Evaluated (Next × List ℕ) → Evaluated Next → List ℕ → Type 0
Leaves outcome (Ok next) stack = outcome ≡ Ok (next, stack)
Leaves outcome (Err f) stack = outcome ≡ Err f

-- what the instructions behind one give, from the pc that it leads to and the stack that it leaves
abbrev pub led_on : Evaluated (Next × List ℕ) → ℕ → (ℕ → List ℕ → Evaluated ℕ) → Evaluated ℕ
led_on (Ok (Following, stack)) pc behind = behind pc stack
led_on (Ok (At to, stack)) pc behind = behind to stack
led_on (Ok (Ended value, stack)) pc behind = Ok value
led_on (Err f) pc behind = Err f

-- what the instructions from one on give, one after another; those before the pc are jumped over
abbrev pub run : Target → List Placed → ℕ → List ℕ → Evaluated ℕ
run target [] pc stack = Err NoEnd
run target (p ∷ more) pc stack =
    if nat_lt p.at pc then run target more pc stack
    else led_on (after_instruction target p.instruction stack) pc (run target more)

-- the value of an expression, or why it has none
abbrev pub value_of : Target → List Placed → Evaluated ℕ
value_of target instructions = run target instructions 0 []

-- a value is true if it is not zero, and so is one that is not there, as for gdbserver: gdb then evaluates it itself
abbrev pub is_true : Evaluated ℕ → Bool
is_true (Ok value) = not (nat_eq value 0)
is_true (Err f) = true

-- a condition holds
abbrev pub holds : Target → List Placed → Bool
holds target instructions = is_true (value_of target instructions)
