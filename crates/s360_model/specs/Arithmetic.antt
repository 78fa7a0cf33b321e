-- Sums, differences and absolute values of words as exact whole numbers (GA22-6821, "Fixed-Point
-- Arithmetic" and "Logical Operations"). A register gets the word of an exact result, and its
-- condition code is its kind's function of it.
use Rattle.std.specs.Prelude.{ℕ, ◌+◌, ◌-◌, ◌^◌, ℤ, pos, ◌+ℤ◌, ◌-ℤ◌, unsigned_abs}
use Rattle.std.specs.Int.{int_rem_euclid}
use Rattle.s360_model.specs.Numbers.{signed}

-- the word of a whole number, the number modulo 2^32: its low 32 bits in two's complement
abbrev pub word_of : ℤ → ℕ
word_of n = unsigned_abs (int_rem_euclid n (pos (2 ^ 32)))

-- the sum of two signed words
abbrev pub signed_sum : ℕ → ℕ → ℤ
signed_sum first second = signed first +ℤ signed second

-- the first signed word minus the second
abbrev pub signed_difference : ℕ → ℕ → ℤ
signed_difference first second = signed first -ℤ signed second

-- zero minus a signed word
abbrev pub signed_complement : ℕ → ℤ
signed_complement word = pos 0 -ℤ signed word

-- the absolute value of a signed word
abbrev pub absolute_value : ℕ → ℤ
absolute_value word = pos (unsigned_abs (signed word))

-- zero minus the absolute value
abbrev pub negative_absolute_value : ℕ → ℤ
negative_absolute_value word = pos 0 -ℤ absolute_value word

-- the sum of two unsigned words
abbrev pub logical_sum : ℕ → ℕ → ℕ
logical_sum first second = first + second

-- logical subtraction adds the ones' complement of the second word, and one
abbrev pub logical_difference : ℕ → ℕ → ℕ
logical_difference first second = first + (2 ^ 32 - 1 - second) + 1
