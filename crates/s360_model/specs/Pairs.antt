-- A pair of words as one number of 64 bits, the first word high (GA22-6821, "Fixed-Point
-- Arithmetic", data format). Read as a signed number it is in two's complement.
use Rattle.std.specs.Prelude.{ℕ, ◌+◌, ◌-◌, ◌*◌, ◌/◌, ◌%◌, ◌^◌, Bool, not, ◌&&◌, if◌then◌else◌, ℤ, pos, ◌+ℤ◌, ◌-ℤ◌, ◌*ℤ◌, int_lt, unsigned_abs}
use Rattle.std.specs.Int.{int_rem_euclid}
use Rattle.s360_model.specs.Numbers.{signed}
use Rattle.s360_model.specs.ConditionCodes.{sign_code}

-- the unsigned number that a pair stands for
abbrev pub pair_of : ℕ → ℕ → ℕ
pair_of high low = high * 2 ^ 32 + low

-- the high and the low word of a number of 64 bits
abbrev pub words_of_pair : ℕ → ℕ × ℕ
words_of_pair pair = (pair / 2 ^ 32, pair % 2 ^ 32)

-- the signed number that a pair stands for
abbrev pub signed_pair : ℕ → ℕ → ℤ
signed_pair high low = signed high *ℤ pos (2 ^ 32) +ℤ pos low

-- the 64 bits of a whole number, the number modulo 2^64: its low 64 bits in two's complement
abbrev pub doubleword_of : ℤ → ℕ
doubleword_of n = unsigned_abs (int_rem_euclid n (pos (2 ^ 64)))

-- the number is one that a pair can stand for: from -2^63 to 2^63 - 1
abbrev pub fits_pair : ℤ → Bool
fits_pair n = not (int_lt n (pos 0 -ℤ pos (2 ^ 63))) && not (int_lt (pos (2 ^ 63 - 1)) n)

-- signed, of a pair: by the sign of the exact result, or 3 where a pair can't stand for it
-- (overflow)
abbrev pub signed_pair_code : ℤ → ℕ
signed_pair_code n = if fits_pair n then sign_code n else 3
