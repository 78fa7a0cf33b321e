-- Words as numbers (GA22-6821, "Fixed-Point Arithmetic", data format). A word is the whole number
-- of its 32 bits, from 0 to 2^32 - 1; read as a signed number it is in two's complement.
use Rattle.std.specs.Prelude.{ℕ, ◌-◌, ◌%◌, ◌^◌, nat_lt, Bool, not, ◌&&◌, if◌then◌else◌, ℤ, pos, ◌-ℤ◌, int_lt}

-- the low 32 bits of a whole number
abbrev pub low32 : ℕ → ℕ
low32 n = n % 2 ^ 32

-- the signed number that a word stands for
abbrev pub signed : ℕ → ℤ
signed word = if nat_lt word (2 ^ 31) then pos word else (pos word -ℤ pos (2 ^ 32))

-- the number is one that a word can stand for: from -2^31 to 2^31 - 1
abbrev pub fits_word : ℤ → Bool
fits_word n = not (int_lt n (pos 0 -ℤ pos (2 ^ 31))) && not (int_lt (pos (2 ^ 31 - 1)) n)
