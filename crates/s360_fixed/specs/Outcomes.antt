-- What instructions with a second operand do (GA22-6821, "Fixed-Point Arithmetic", and "Logical Operations").
use Rattle.std.specs.Prelude.{ℕ, ◌+◌, ◌%◌, Bool, ◌||◌, nat_eq, Option, Some, None, is_none, List, [], ◌∷◌}
use Rattle.std.specs.Option.{option_map, option_map_or}
use Rattle.s360_model.specs.{Core.Core, Products.product_words, Products.division}
use Rattle.s360_fixed.specs.declared.{ended.Ended.TheVariants.Program, row.Combination.Combination, row.PairCombination.PairCombination}
use Rattle.s360_fixed.specs.Alterations.{Alteration, after_alteration, no_register, register_pair, unchanged}
use Rattle.s360_fixed.specs.{ProgramCodes.Conditions, ProgramCodes.program_code, Operands.Operand, Rows.result_of, View.View, View.Outcome, View.register_of}

-- a program interruption with nothing stored or loaded, where a condition holds
abbrev pub unless_met : Conditions → Core → Outcome → Outcome
unless_met c m outcome = option_map_or (λ code. record { ended = Program code; core = m }) (program_code c) outcome

-- a register becomes a word, if there is one
abbrev pub word_for : ℕ → Option ℕ → List (ℕ × ℕ)
word_for r None = []
word_for r (Some word) = (r, word) ∷ []

-- rows of R1 and a second operand
abbrev pub combination_outcome : Combination → View → ℕ → Operand → Outcome
combination_outcome combination v r1 s =
    let result = result_of combination (register_of v r1) s.value
    in unless_met s.conditions v.core
    (after_alteration v.core (record { registers = word_for r1 result.0; setting = result.1; address = v.next_address }))

-- the number of a register, or an address, is odd
abbrev pub is_odd : ℕ → Bool
is_odd r = nat_eq (r % 2) 1

-- the words that the pair becomes: the product, or the remainder and the quotient, where there is a quotient
abbrev pub pair_result : PairCombination → ℕ → ℕ → ℕ → Option (ℕ × ℕ)
pair_result PairCombination.Product high low second = Some (product_words low second)
pair_result PairCombination.Quotient high low second = option_map (λ (words : ℕ × ℕ). (words.1, words.0)) (division high low second)

abbrev pub pair_alteration : ℕ → Option (ℕ × ℕ) → ℕ → Alteration
pair_alteration r1 None address = no_register unchanged address
pair_alteration r1 (Some words) address = register_pair r1 words unchanged address

-- rows of the pair and a second operand. A pair begins with an even register, which comes before what the operand meets
abbrev pub pair_outcome : PairCombination → View → ℕ → Operand → Outcome
pair_outcome pair v r1 s =
    let result = pair_result pair (register_of v r1) (register_of v (r1 + 1)) s.value
    in unless_met (record s.conditions { specification = is_odd r1 || s.conditions.specification; divide = is_none result }) v.core
    (after_alteration v.core (pair_alteration r1 result v.next_address))
