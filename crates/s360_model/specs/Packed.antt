-- Decimal numbers in the packed format (GA22-6821, "Decimal Arithmetic", data format, and "Fixed-Point
-- Arithmetic", CONVERT TO BINARY and CONVERT TO DECIMAL): a doubleword of fifteen decimal digits of four
-- bits, the high one first, with the sign in its low four bits.
use Rattle.std.specs.Prelude.{ℕ, zero, suc, ◌+◌, ◌*◌, ◌/◌, ◌%◌, Bool, ◌||◌, nat_eq, nat_lt, if◌then◌else◌, Option, Some, None}
use Rattle.std.specs.Prelude.{ℤ, pos, ◌-ℤ◌, int_lt, unsigned_abs, option_and_then, option_map}

-- so many low decimal digits of a number, the high one first
unfoldable pub packed_digits : ℕ → ℕ → ℕ
packed_digits zero n = 0
packed_digits (suc count) n = packed_digits count (n / 10) * 16 + n % 10

-- the sign as it is written: C and D, or in ASCII mode A and B
abbrev pub written_sign : Bool → ℤ → ℕ
written_sign ascii n =
    if int_lt n (pos 0)
    then (if ascii then 0xB else 0xD)
    else (if ascii then 0xA else 0xC)

-- a number as fifteen digits and a sign
abbrev pub packed : Bool → ℤ → ℕ
packed ascii n = packed_digits 15 (unsigned_abs n) * 16 + written_sign ascii n

-- the number that so many low digits are; none where one of them is no decimal digit
unfoldable pub digits_value : ℕ → ℕ → Option ℕ
digits_value zero digits = Some 0
digits_value (suc count) digits =
    if nat_lt (digits % 16) 10
    then option_map (λ high. high * 10 + digits % 16) (digits_value count (digits / 16))
    else None

-- a magnitude with a sign as it is read: A, C, E and F are plus, B and D minus, and the others are no sign
abbrev pub signed_magnitude : ℕ → ℕ → Option ℤ
signed_magnitude sign magnitude =
    if nat_lt sign 10
    then None
    else (if nat_eq sign 0xB || nat_eq sign 0xD then Some (pos 0 -ℤ pos magnitude) else Some (pos magnitude))

-- the number that a packed doubleword is; none where a digit or the sign is none
abbrev pub packed_value : ℕ → Option ℤ
packed_value doubleword = option_and_then (signed_magnitude (doubleword % 16)) (digits_value 15 (doubleword / 16))
