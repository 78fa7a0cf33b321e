-- Numbers as text: hexadecimal in upper case and fixed width, and decimal without leading zeros (own
-- profile). A text is the list of its ASCII codes.
use Rattle.std.specs.Prelude.{ℕ, zero, suc, ◌+◌, ◌/◌, ◌%◌, nat_lt, if◌then◌else◌, List, [], ◌∷◌, ◌++◌}
pub use Rattle.std.specs.Fmt.{decimal}

-- the digit of a number below 16: 0 to 9, A to F
abbrev pub hex_digit : ℕ → ℕ
hex_digit n = if nat_lt n 10 then 48 + n else 55 + n

-- a number in so many hexadecimal digits
abbrev pub hex_text : ℕ → ℕ → List ℕ
hex_text zero n = []
hex_text (suc width) n = hex_text width (n / 16) ++ hex_digit (n % 16) ∷ []

-- bytes as two digits each
abbrev pub hex_bytes : List ℕ → List ℕ
hex_bytes [] = []
hex_bytes (byte ∷ bytes) = hex_text 2 byte ++ hex_bytes bytes
