-- Products and quotients of signed words (GA22-6821, "Fixed-Point Arithmetic", multiply and
-- divide).
use Rattle.std.specs.Prelude.{ℕ, Bool, not, ◌&&◌, nat_eq, if◌then◌else◌, Option, Some, None, ℤ, ◌*ℤ◌, int_div, int_rem, unsigned_abs}
use Rattle.s360_model.specs.Numbers.{signed, fits_word}
use Rattle.s360_model.specs.Arithmetic.{word_of}
use Rattle.s360_model.specs.Pairs.{signed_pair, doubleword_of, words_of_pair}

-- the product of two signed words
abbrev pub signed_product : ℕ → ℕ → ℤ
signed_product first second = signed first *ℤ signed second

-- the pair of words that a product fills
abbrev pub product_words : ℕ → ℕ → ℕ × ℕ
product_words first second = words_of_pair (doubleword_of (signed_product first second))

-- two numbers have a quotient, rounded toward zero, where the divisor is not zero and the quotient
-- fits a word
abbrev pub has_quotient : ℤ → ℤ → Bool
has_quotient dividend divisor =
    not (nat_eq (unsigned_abs divisor) 0) && fits_word (int_div dividend divisor)

-- the words of the quotient and of the remainder, which has the sign of the dividend
abbrev pub divided : ℤ → ℤ → Option (ℕ × ℕ)
divided dividend divisor =
    if has_quotient dividend divisor
    then Some (word_of (int_div dividend divisor), word_of (int_rem dividend divisor))
    else None

-- a signed pair divided by a signed word: quotient and remainder, or none
abbrev pub division : ℕ → ℕ → ℕ → Option (ℕ × ℕ)
division high low divisor = divided (signed_pair high low) (signed divisor)
