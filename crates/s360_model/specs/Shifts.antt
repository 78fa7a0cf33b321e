-- Shifts of a word or of a pair of words by a count of 0 to 63 (GA22-6821, "Fixed-Point Arithmetic"
-- and "Logical Operations", shifts). A signed shift is a multiple or a quotient of the signed
-- number, and its condition code is a function of that exact number.
use Rattle.std.specs.Prelude.{ℕ, ◌+◌, ◌*◌, ◌/◌, ◌%◌, ◌^◌, ℤ, pos, ◌*ℤ◌}
use Rattle.std.specs.Int.{int_div_euclid}
use Rattle.s360_model.specs.Numbers.{low32, signed}
use Rattle.s360_model.specs.Arithmetic.{word_of}
use Rattle.s360_model.specs.Pairs.{pair_of, words_of_pair, signed_pair, doubleword_of}

-- a number times a power of two; where it does not fit, a bit unlike the sign is lost on the left
abbrev pub times_power : ℤ → ℕ → ℤ
times_power n count = n *ℤ pos (2 ^ count)

-- a number divided by a power of two, rounded down: the sign is copied on the left
abbrev pub over_power : ℤ → ℕ → ℤ
over_power n count = int_div_euclid n (pos (2 ^ count))

-- signed left: the sign stays, and the 31 bits past it are shifted
abbrev pub left_word : ℕ → ℕ → ℕ
left_word word count = word / 2 ^ 31 * 2 ^ 31 + word * 2 ^ count % 2 ^ 31

-- signed left, of a pair: the sign stays, and the 63 bits past it are shifted
abbrev pub left_pair : ℕ → ℕ → ℕ
left_pair pair count = pair / 2 ^ 63 * 2 ^ 63 + pair * 2 ^ count % 2 ^ 63

-- the words of a signed left shift of a pair
abbrev pub left_words : ℕ → ℕ → ℕ → ℕ × ℕ
left_words high low count = words_of_pair (left_pair (pair_of high low) count)

-- signed right
abbrev pub right_word : ℕ → ℕ → ℕ
right_word word count = word_of (over_power (signed word) count)

abbrev pub right_words : ℕ → ℕ → ℕ → ℕ × ℕ
right_words high low count = words_of_pair (doubleword_of (over_power (signed_pair high low) count))

-- logical: zeros come in on either side
abbrev pub logical_left_word : ℕ → ℕ → ℕ
logical_left_word word count = low32 (word * 2 ^ count)

abbrev pub logical_right_word : ℕ → ℕ → ℕ
logical_right_word word count = word / 2 ^ count

abbrev pub logical_left_words : ℕ → ℕ → ℕ → ℕ × ℕ
logical_left_words high low count = words_of_pair (pair_of high low * 2 ^ count % 2 ^ 64)

abbrev pub logical_right_words : ℕ → ℕ → ℕ → ℕ × ℕ
logical_right_words high low count = words_of_pair (pair_of high low / 2 ^ count)
