-- Values from the standard or worked by hand, which the definitions have to give.
use Rattle.std.specs.Prelude.{◌≡◌, ◌+◌, ◌+ℤ◌, true, false, refl, [], ◌∷◌, codes}
use Rattle.s360_model.specs.Numbers.{low32, signed}
use Rattle.s360_model.specs.ConditionCodes.{signed_code, carry_code, order_code}
use Rattle.s360_model.specs.Psw.{current_psw, stored_psw, with_condition_code, with_instruction_address, with_program_mask, with_system_mask, protection_key_of, wait_of, fixed_point_overflow_mask_of}
use Rattle.s360_model.specs.Storage.{is_storage_size, word_at}
use Rattle.s360_model.specs.Text.{hex_text}

-- the largest word plus one is the smallest negative number, and overflows
pub greatest_plus_one : low32 (0x7FFF_FFFF + 1) ≡ 0x8000_0000
greatest_plus_one = refl

pub greatest_plus_one_overflows : signed_code (signed 0x7FFF_FFFF +ℤ signed 1) ≡ 3
greatest_plus_one_overflows = refl

-- minus one and one cancel without overflow; as unsigned words they carry
pub minus_one_plus_one : signed_code (signed 0xFFFF_FFFF +ℤ signed 1) ≡ 0
minus_one_plus_one = refl

pub minus_one_plus_one_carries : carry_code (0xFFFF_FFFF + 1) ≡ 2
minus_one_plus_one_carries = refl

pub smallest_twice_overflows : signed_code (signed 0x8000_0000 +ℤ signed 0x8000_0000) ≡ 3
smallest_twice_overflows = refl

pub minus_one_is_low : order_code (signed 0xFFFF_FFFF) (signed 1) ≡ 1
minus_one_is_low = refl

-- an old PSW for SVC 5 at address 200, loaded again without its code and length
pub stored_for_supervisor_call : stored_psw 0x0000_0000_0000_0202 5 1 ≡ 0x0000_0005_4000_0202
stored_for_supervisor_call = refl

pub loaded_again : current_psw 0x0000_0005_4000_0202 ≡ 0x0000_0000_0000_0202
loaded_again = refl

pub next_psw_of_an_overflow : with_instruction_address (with_condition_code 0x0000_0000_0000_0200 3) 0x202 ≡ 0x0000_0000_3000_0202
next_psw_of_an_overflow = refl

-- key 1, wait state, condition code 3, fixed-point overflow mask one, address 1234
pub key_of_a_psw : protection_key_of 0x0012_0000_3800_1234 ≡ 1
key_of_a_psw = refl

pub wait_of_a_psw : wait_of 0x0012_0000_3800_1234 ≡ true
wait_of_a_psw = refl

pub mask_of_a_psw : fixed_point_overflow_mask_of 0x0012_0000_3800_1234 ≡ true
mask_of_a_psw = refl

-- sizes are whole blocks from 8,192 to 1,048,576
pub no_half_block : is_storage_size 9216 ≡ false
no_half_block = refl

pub smallest_storage : is_storage_size 8192 ≡ true
smallest_storage = refl

-- numbers stand high byte first
pub word_of_bytes : word_at (0 ∷ 0x12 ∷ 0x34 ∷ 0x56 ∷ 0x78 ∷ []) 1 ≡ 0x1234_5678
word_of_bytes = refl

pub hexadecimal_text : hex_text 6 0x1A2B ≡ codes "001A2B"
hexadecimal_text = refl

-- SPM of 38000000: condition code 3 and fixed-point overflow mask one; SSM of FF
pub program_mask_of_a_word : with_program_mask 0x0012_0000_1700_0202 0x3800_0000 ≡ 0x0012_0000_3800_0202
program_mask_of_a_word = refl

pub system_mask_of_a_byte : with_system_mask 0x0012_0000_3800_0204 0xFF ≡ 0xFF12_0000_3800_0204
system_mask_of_a_byte = refl
