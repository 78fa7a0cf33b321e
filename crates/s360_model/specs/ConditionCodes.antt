-- The kinds of condition code, each a function of exact whole numbers (GA22-6821, "Fixed-Point
-- Arithmetic" and "Logical Operations", condition code).
use Rattle.std.specs.Prelude.{ℕ, ◌+◌, ◌^◌, nat_eq, nat_lt, if◌then◌else◌, ℤ, pos, int_lt}
use Rattle.s360_model.specs.Numbers.{low32, fits_word}

-- sign: 0 zero, 1 negative, 2 positive
abbrev pub sign_code : ℤ → ℕ
sign_code n = if int_lt n (pos 0) then 1 else (if int_lt (pos 0) n then 2 else 0)

-- signed: by the sign of the exact result, or 3 where a word can't stand for it (overflow)
abbrev pub signed_code : ℤ → ℕ
signed_code n = if fits_word n then sign_code n else 3

-- carry, of the exact sum of two unsigned words: 0 and 1 without a carry out of 32 bits, 2 and 3 with
-- one; 0 and 2 where the low 32 bits are zero
abbrev pub carry_code : ℕ → ℕ
carry_code sum = (if nat_lt sum (2 ^ 32) then 0 else 2) + (if nat_eq (low32 sum) 0 then 0 else 1)

-- bits: 0 all zero, 1 not all zero
abbrev pub bits_code : ℕ → ℕ
bits_code n = if nat_eq n 0 then 0 else 1

-- order: 0 equal, 1 the first operand is low, 2 the first operand is high
abbrev pub order_code : ℤ → ℤ → ℕ
order_code first second = if int_lt first second then 1 else (if int_lt second first then 2 else 0)
