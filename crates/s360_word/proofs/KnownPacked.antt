-- Values worked by hand, which the definitions of packed decimal numbers have to give.
use Rattle.std.specs.Prelude.{◌≡◌, true, false, refl, Ok, Err}
use Rattle.s360_model.specs.Numbers.{signed}
use Rattle.s360_model.specs.Packed.{digits_value, packed, packed_digits, packed_value}
use Rattle.s360_word.specs.Packed.{word_unpacked}
use Rattle.s360_word.specs.declared.packed.PackedFault.TheVariants.{BadDigit, TooLarge}

-- minus 123, and in ASCII mode
pub minus_123 : packed false (signed 0xFFFF_FF85) ≡ 0x0000_0000_0000_123D
unfolding packed_digits
minus_123 = refl

pub minus_123_in_ascii : packed true (signed 0xFFFF_FF85) ≡ 0x0000_0000_0000_123B
unfolding packed_digits
minus_123_in_ascii = refl

-- plus 1234567890, and the smallest word
pub plus_of_ten_digits : packed false (signed 1234567890) ≡ 0x0000_0123_4567_890C
unfolding packed_digits
plus_of_ten_digits = refl

pub smallest_in_ascii : packed true (signed 0x8000_0000) ≡ 0x0000_0214_7483_648B
unfolding packed_digits
smallest_in_ascii = refl

-- 2^31 does not fit a word, and its negative does
pub two_to_31_is_too_large : word_unpacked (packed_value 0x0000_0214_7483_648C) ≡ Err (TooLarge 0x8000_0000)
unfolding digits_value
two_to_31_is_too_large = refl

pub minus_two_to_31_fits : word_unpacked (packed_value 0x0000_0214_7483_648D) ≡ Ok 0x8000_0000
unfolding digits_value
minus_two_to_31_fits = refl

-- the largest number of all is told with its low 32 bits
pub nines_are_too_large : word_unpacked (packed_value 0x9999_9999_9999_999F) ≡ Err (TooLarge 0xA4C6_7FFF)
unfolding digits_value
nines_are_too_large = refl

-- a zero with a minus is zero
pub minus_zero : word_unpacked (packed_value 0x0000_0000_0000_000D) ≡ Ok 0
unfolding digits_value
minus_zero = refl

-- minus 7 and plus 7 with the other signs
pub minus_seven : word_unpacked (packed_value 0x0000_0000_0000_007B) ≡ Ok 0xFFFF_FFF9
unfolding digits_value
minus_seven = refl

pub plus_seven : word_unpacked (packed_value 0x0000_0000_0000_007E) ≡ Ok 7
unfolding digits_value
plus_seven = refl

-- a sign that is none, and digits that are none
pub nine_is_no_sign : word_unpacked (packed_value 0x0000_0000_0000_0079) ≡ Err BadDigit
unfolding digits_value
nine_is_no_sign = refl

pub high_digit_is_none : word_unpacked (packed_value 0xA000_0000_0000_000C) ≡ Err BadDigit
unfolding digits_value
high_digit_is_none = refl
