-- Numbers as a person writes them (own profile). Digits above 9 are letters of either case.
use Rattle.std.specs.Prelude.{ℕ, ◌&&◌, nat_le, if◌then◌else◌, Option, Some, None, List, length}
use Rattle.std.specs.List.{list_all}
use Rattle.std.specs.Char.{is_digit}
use Rattle.std.specs.Str.Parse.{digits_value}

-- a number of 1 to so many digits in a radix
abbrev pub number_of_digits : ℕ → ℕ → List ℕ → Option ℕ
number_of_digits radix most word =
    if (nat_le 1 (length word) && nat_le (length word) most) && list_all (λ c. is_digit c radix) word
    then Some (digits_value radix word)
    else None
