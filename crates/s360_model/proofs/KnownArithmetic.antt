-- Values from the standard or worked by hand, which the definitions of arithmetic have to give.
use Rattle.std.specs.Prelude.{◌≡◌, refl, Some, None}
use Rattle.s360_model.specs.Numbers.{signed}
use Rattle.s360_model.specs.ConditionCodes.{signed_code, carry_code}
use Rattle.s360_model.specs.Arithmetic.{word_of, signed_complement, absolute_value, logical_difference}
use Rattle.s360_model.specs.Pairs.{signed_pair, signed_pair_code}
use Rattle.s360_model.specs.Products.{product_words, division}
use Rattle.s360_model.specs.Shifts.{times_power, left_word, right_word, right_words}

-- five minus five carries and is zero; zero minus one has no carry
pub five_minus_five : carry_code (logical_difference 5 5) ≡ 2
five_minus_five = refl

pub zero_minus_one : carry_code (logical_difference 0 1) ≡ 1
zero_minus_one = refl

-- the largest negative number has no positive counterpart: it stays and overflows
pub smallest_stays : word_of (absolute_value 0x8000_0000) ≡ 0x8000_0000
smallest_stays = refl

pub smallest_complement_overflows : signed_code (signed_complement 0x8000_0000) ≡ 3
smallest_complement_overflows = refl

-- minus one times two is minus two, in 64 bits
pub product_of_minus_one : product_words 0xFFFF_FFFF 2 ≡ (0xFFFF_FFFF, 0xFFFF_FFFE)
product_of_minus_one = refl

-- minus seven by two is minus three, and minus one remains
pub minus_seven_by_two : division 0xFFFF_FFFF 0xFFFF_FFF9 2 ≡ Some (0xFFFF_FFFD, 0xFFFF_FFFF)
minus_seven_by_two = refl

-- 2^31 does not fit a word as a quotient, and -2^31 does
pub quotient_too_large : division 0 0x8000_0000 1 ≡ None
quotient_too_large = refl

pub quotient_just_fits : division 0 0x8000_0000 0xFFFF_FFFF ≡ Some (0x8000_0000, 0)
quotient_just_fits = refl

-- a one is lost past the sign of a positive number
pub one_is_lost : signed_code (times_power (signed 0x4000_0000) 1) ≡ 3
one_is_lost = refl

pub sign_stays : left_word 0xC000_0001 1 ≡ 0x8000_0002
sign_stays = refl

-- minus five by four, rounded down
pub minus_five_right : right_word 0xFFFF_FFFB 2 ≡ 0xFFFF_FFFE
minus_five_right = refl

-- a pair keeps its sign whatever the count
pub pair_right_by_all : right_words 0x8000_0000 0 63 ≡ (0xFFFF_FFFF, 0xFFFF_FFFF)
pair_right_by_all = refl

pub pair_left_overflows : signed_pair_code (times_power (signed_pair 0x4000_0000 0) 1) ≡ 3
pair_left_overflows = refl
