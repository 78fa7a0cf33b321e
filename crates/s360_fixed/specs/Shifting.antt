-- The rows that shift (GA22-6821, "Fixed-Point Arithmetic" and "Logical Operations", shifts).
use Rattle.std.specs.Prelude.{ℕ, ◌+◌, ◌%◌}
use Rattle.s360_model.specs.{Numbers.signed, Pairs.signed_pair}
use Rattle.s360_model.specs.Shifts.{times_power, over_power, left_word, left_words, right_word, right_words, logical_left_word, logical_right_word}
use Rattle.s360_model.specs.Shifts.{logical_left_words, logical_right_words}
use Rattle.s360_fixed.specs.{declared.row.Shift.Shift, Alterations.after_alteration, Alterations.one_register, Alterations.register_pair, Alterations.unchanged}
use Rattle.s360_fixed.specs.{declared.setting.CodeSetting.CodeSetting, Outcomes.is_odd, Outcomes.unless_met, View.View, View.Outcome, View.register_of}
use Rattle.s360_fixed.specs.{ProgramCodes.Conditions, ProgramCodes.no_conditions, Rows.by_sign, Rows.by_sign_or_overflow, Rows.by_sign_or_pair_overflow}

-- a word shifted, and its kind of condition code
abbrev pub shifted_word : Shift → ℕ → ℕ → ℕ × CodeSetting
shifted_word Shift.LeftLogical word count = (logical_left_word word count, unchanged)
shifted_word Shift.RightLogical word count = (logical_right_word word count, unchanged)
shifted_word Shift.Left word count = (left_word word count, by_sign_or_overflow (times_power (signed word) count))
shifted_word Shift.Right word count = (right_word word count, by_sign (over_power (signed word) count))

-- a pair of words shifted
abbrev pub shifted_words : Shift → ℕ → ℕ → ℕ → (ℕ × ℕ) × CodeSetting
shifted_words Shift.LeftLogical high low count = (logical_left_words high low count, unchanged)
shifted_words Shift.RightLogical high low count = (logical_right_words high low count, unchanged)
shifted_words Shift.Left high low count = (left_words high low count, by_sign_or_pair_overflow (times_power (signed_pair high low) count))
shifted_words Shift.Right high low count = (right_words high low count, by_sign (over_power (signed_pair high low) count))

-- R1 is shifted by the low six bits of the address
abbrev pub shift_outcome : Shift → View → ℕ → ℕ → Outcome
shift_outcome shift v r1 address =
    let shifted = shifted_word shift (register_of v r1) (address % 64)
    in after_alteration v.core (one_register r1 shifted.0 shifted.1 v.next_address)

-- a pair of registers begins with an even one
abbrev pub register_pair_conditions : ℕ → Conditions
register_pair_conditions r1 = record no_conditions { specification = is_odd r1 }

-- the pair R1, R1 + 1 is shifted likewise
abbrev pub pair_shift_outcome : Shift → View → ℕ → ℕ → Outcome
pair_shift_outcome shift v r1 address =
    let shifted = shifted_words shift (register_of v r1) (register_of v (r1 + 1)) (address % 64)
    in unless_met (register_pair_conditions r1) v.core
    (after_alteration v.core (register_pair r1 shifted.0 shifted.1 v.next_address))
