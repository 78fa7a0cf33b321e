-- Numbers as an argument writes them (own profile).
use Rattle.std.specs.Prelude.{ℕ, ◌&&◌, nat_eq, nat_le, if◌then◌else◌, Option, Some, None, List, length, option_and_then}
use Rattle.s360_text.specs.Digits.{number_of_digits}

-- a number of 1 to so many hexadecimal digits
abbrev pub hex_number : ℕ → List ℕ → Option ℕ
hex_number most word = number_of_digits 16 most word

-- a doubleword: sixteen hexadecimal digits
abbrev pub doubleword_of : List ℕ → Option ℕ
doubleword_of word = if nat_eq (length word) 16 then hex_number 16 word else None

-- a count from 1 to so many, in 1 to 8 decimal digits
abbrev pub count_of : ℕ → List ℕ → Option ℕ
count_of most word = option_and_then (λ n. if nat_le 1 n && nat_le n most then Some n else None) (number_of_digits 10 8 word)
