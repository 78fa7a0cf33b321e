-- The rows of registers and a second operand, the branches and the shifts as readings (GA22-6821, "Fixed-Point Arithmetic", "Logical Operations" and
-- "Branching").
use Rattle.std.specs.Prelude.{ℕ, ◌+◌, ◌%◌, Bool, true, false, ◌||◌, not, nat_eq, if◌then◌else◌, Option, Some, None, unwrap_or, List, [], ◌∷◌}
use Rattle.s360_model.specs.Arithmetic.{signed_sum, word_of}
use Rattle.s360_model.specs.{Numbers.low32, Numbers.signed, Psw.condition_code_of, Psw.stored_psw, Psw.with_instruction_address}
use Rattle.s360_store.specs.declared.place.Place.TheVariants.{Psw, Register}
use Rattle.s360_psw.specs.declared.instruction_length.InstructionLength.{InstructionLength}
use Rattle.s360_psw.specs.InstructionLength.{length_code_of}
use Rattle.s360_fixed.specs.declared.{ended.Ended.Ended, program_code.ProgramCode.TheVariants.FixedPointDivide, setting.CodeSetting.CodeSetting}
use Rattle.s360_fixed.specs.declared.row.{Branch.Branch, Combination.Combination, IndexBranch.IndexBranch, PairCombination.PairCombination, Shift.Shift}
use Rattle.s360_fixed.specs.declared.row.Combination.TheVariants.{Second, InsertedCharacter, Tested, Complement, Absolute, NegativeAbsolute}
use Rattle.s360_fixed.specs.declared.row.Combination.TheVariants.{Sum, Difference, Comparison, LogicalComparison, LowProduct}
use Rattle.s360_fixed.specs.{Branching.count_less_one, Branching.is_selected, Outcomes.is_odd, Outcomes.pair_result, ProgramCodes.Conditions}
use Rattle.s360_fixed.specs.{ProgramCodes.program_code, Rows.is_taken, Rows.result_of, Shifting.register_pair_conditions, Shifting.shifted_word}
use Rattle.s360_fixed.specs.Shifting.{shifted_words}
use Rattle.s360_footprint.specs.Altering.{Altering, altering_row, refused, registers_altered, unless_refused}
use Rattle.s360_footprint.specs.OperandReadings.{OperandReading}
use Rattle.s360_footprint.specs.Readings.{Reading, bind, done, read, value_read}
use Rattle.s360_footprint.specs.Rows.{Row}

-- R1 is read; the condition code stays; R1 stays; and the result may overflow
abbrev pub uses_first : Combination → Bool
uses_first Second = false
uses_first Tested = false
uses_first Complement = false
uses_first Absolute = false
uses_first NegativeAbsolute = false
uses_first other = true

abbrev pub keeps_code : Combination → Bool
keeps_code Second = true
keeps_code InsertedCharacter = true
keeps_code LowProduct = true
keeps_code other = false

abbrev pub compares : Combination → Bool
compares Comparison = true
compares LogicalComparison = true
compares other = false

abbrev pub may_overflow : Combination → Bool
may_overflow Complement = true
may_overflow Absolute = true
may_overflow Sum = true
may_overflow Difference = true
may_overflow other = false

-- what a combination makes of R1 and a second operand
abbrev pub result_read : Combination → ℕ → Reading ℕ → Reading (Option ℕ × CodeSetting)
result_read c r1 second =
    if uses_first c then read (Register r1) (λ a. bind second (λ b. done (result_of c a b))) else bind second (λ b. done (result_of c 0 b))

abbrev pub word_result : Option ℕ × CodeSetting → Reading ℕ
word_result result = done (unwrap_or result.0 0)

abbrev pub combination_altering : Combination → ℕ → Reading ℕ → ℕ → Altering
combination_altering c r1 second next = record {
  registers = if compares c then [] else (r1, bind (result_read c r1 second) word_result) ∷ [];
  code = if keeps_code c then done None else bind (result_read c r1 second) (λ result. done result.1.code);
  overflow = if may_overflow c then bind (result_read c r1 second) (λ result. done result.1.overflow) else done false;
  address = done next;
}

abbrev pub combination_row : Combination → ℕ → OperandReading → ℕ → Row Ended
combination_row c r1 second next =
    bind second.conditions (λ conditions. unless_refused (program_code conditions) (altering_row (combination_altering c r1 second.value next)))

-- what the pair of registers becomes: a product is not made of R1
abbrev pub pair_read : PairCombination → ℕ → Reading ℕ → Reading (Option (ℕ × ℕ))
pair_read PairCombination.Product r1 second =
    read (Register (r1 + 1)) (λ low. bind second (λ b. done (pair_result PairCombination.Product 0 low b)))
pair_read PairCombination.Quotient r1 second =
    read (Register r1) (λ high. read (Register (r1 + 1)) (λ low. bind second (λ b. done (pair_result PairCombination.Quotient high low b))))

abbrev pub first_word : Option (ℕ × ℕ) → Reading ℕ
first_word words = done (unwrap_or words (0, 0)).0

abbrev pub second_word : Option (ℕ × ℕ) → Reading ℕ
second_word words = done (unwrap_or words (0, 0)).1

abbrev pub pair_altering : Reading (Option (ℕ × ℕ)) → ℕ → ℕ → Altering
pair_altering words r1 next = registers_altered ((r1, bind words first_word) ∷ ((r1 + 1, bind words second_word) ∷ [])) next

-- a quotient decides how its division ends
abbrev pub unless_divided : Row Ended → Option (ℕ × ℕ) → Row Ended
unless_divided row None = refused FixedPointDivide
unless_divided row (Some words) = row

abbrev pub pair_made : PairCombination → Reading (Option (ℕ × ℕ)) → Row Ended → Row Ended
pair_made PairCombination.Product words row = row
pair_made PairCombination.Quotient words row = bind words (unless_divided row)

abbrev pub pair_row : PairCombination → ℕ → OperandReading → ℕ → Row Ended
pair_row pair r1 second next =
    let words = pair_read pair r1 second.value
    in bind second.conditions (λ (c : Conditions).
    unless_refused (program_code (record c { specification = is_odd r1 || c.specification; divide = false }))
    (pair_made pair words (altering_row (pair_altering words r1 next))))

-- the branch address in a register: none in register 0, which is not read
abbrev pub target_read : ℕ → Reading (Option ℕ)
target_read r2 = if nat_eq r2 0 then done None else bind (value_read (Register r2)) (λ address. done (Some address))

-- the program goes on at the branch address, where there is one and the branch is taken, or with the next instruction
abbrev pub address_taken : ℕ → Bool → Option ℕ → ℕ
address_taken next taken target = if taken then unwrap_or target next else next

-- the link of a PSW, and whether a count is taken
abbrev pub link_with : ℕ → InstructionLength → ℕ → ℕ
link_with next length psw = low32 (stored_psw (with_instruction_address psw next) 0 (length_code_of length))

abbrev pub branch_altering : Branch → ℕ → Reading (Option ℕ) → ℕ → InstructionLength → Altering
branch_altering Branch.OnCondition mask target next length = record {
  registers = [];
  code = done None;
  overflow = done false;
  address = bind target (λ to. read Psw (λ psw. done (address_taken next (is_selected mask (condition_code_of psw)) to)));
}
branch_altering Branch.AndLink r1 target next length = record {
  registers = (r1, read Psw (λ psw. done (link_with next length psw))) ∷ [];
  code = done None;
  overflow = done false;
  address = bind target (λ to. done (address_taken next true to));
}
branch_altering Branch.OnCount r1 target next length = record {
  registers = (r1, read (Register r1) (λ count. done (count_less_one count))) ∷ [];
  code = done None;
  overflow = done false;
  address = bind target (λ to. read (Register r1) (λ count. done (address_taken next (not (nat_eq (count_less_one count) 0)) to)));
}

abbrev pub branch_row : Branch → ℕ → Reading (Option ℕ) → ℕ → InstructionLength → Row Ended
branch_row branch r1 target next length = altering_row (branch_altering branch r1 target next length)

-- the sum of R1 and the increment, which is compared with the comparand: that is in R3 where its number is odd, else in the next register
abbrev pub sum_read : ℕ → ℕ → Reading ℕ
sum_read r1 r3 = read (Register r1) (λ a. read (Register r3) (λ b. done (word_of (signed_sum a b))))

abbrev pub comparand_register : ℕ → ℕ
comparand_register r3 = if is_odd r3 then r3 else r3 + 1

abbrev pub index_altering : IndexBranch → ℕ → ℕ → ℕ → ℕ → Altering
index_altering branch r1 r3 address next = record {
  registers = (r1, sum_read r1 r3) ∷ [];
  code = done None;
  overflow = done false;
  address =
      bind (sum_read r1 r3)
      (λ sum. read (Register (comparand_register r3))
      (λ comparand. done (address_taken next (is_taken branch (signed sum) (signed comparand)) (Some address))));
}

abbrev pub index_row : IndexBranch → ℕ → ℕ → ℕ → ℕ → Row Ended
index_row branch r1 r3 address next = altering_row (index_altering branch r1 r3 address next)

-- a signed shift sets the condition code, and one to the left may overflow
abbrev pub is_signed_shift : Shift → Bool
is_signed_shift Shift.Left = true
is_signed_shift Shift.Right = true
is_signed_shift other = false

abbrev pub shift_may_overflow : Shift → Bool
shift_may_overflow Shift.Left = true
shift_may_overflow other = false

abbrev pub shifting : {X : Type 0} → Shift → Reading (X × CodeSetting) → List (ℕ × Reading ℕ) → ℕ → Altering
shifting shift result words next = record {
  registers = words;
  code = if is_signed_shift shift then bind result (λ shifted. done shifted.1.code) else done None;
  overflow = if shift_may_overflow shift then bind result (λ shifted. done shifted.1.overflow) else done false;
  address = done next;
}

abbrev pub shift_read : Shift → ℕ → ℕ → Reading (ℕ × CodeSetting)
shift_read shift r1 count = read (Register r1) (λ word. done (shifted_word shift word count))

abbrev pub shift_altering : Shift → ℕ → ℕ → ℕ → Altering
shift_altering shift r1 count next =
    let result = shift_read shift r1 count
    in shifting shift result ((r1, bind result (λ shifted. done shifted.0)) ∷ []) next

abbrev pub shift_row : Shift → ℕ → ℕ → ℕ → Row Ended
shift_row shift r1 address next = altering_row (shift_altering shift r1 (address % 64) next)

abbrev pub pair_shift_read : Shift → ℕ → ℕ → Reading ((ℕ × ℕ) × CodeSetting)
pair_shift_read shift r1 count = read (Register r1) (λ high. read (Register (r1 + 1)) (λ low. done (shifted_words shift high low count)))

abbrev pub pair_shift_altering : Shift → ℕ → ℕ → ℕ → Altering
pair_shift_altering shift r1 count next =
    let result = pair_shift_read shift r1 count
    in shifting shift result ((r1, bind result (λ shifted. done shifted.0.0)) ∷ ((r1 + 1, bind result (λ shifted. done shifted.0.1)) ∷ [])) next

abbrev pub pair_shift_row : Shift → ℕ → ℕ → ℕ → Row Ended
pair_shift_row shift r1 address next =
    unless_refused (program_code (register_pair_conditions r1)) (altering_row (pair_shift_altering shift r1 (address % 64) next))
