-- The program status word as the number of its 64 bits (GA22-6821, "System Structure" and "Status
-- Switching"). Bits are numbered from 0 at the left. Bits 16 to 33 (interruption code and
-- instruction length code) exist only in a stored PSW; in the current one they are zero (own profile).
use Rattle.std.specs.Prelude.{◌≡◌, ℕ, ◌+◌, ◌-◌, ◌*◌, ◌/◌, ◌%◌, ◌^◌, ◌<◌, Bool, nat_eq}

-- what the current PSW keeps of a doubleword: all but bits 16 to 33
abbrev pub current_psw : ℕ → ℕ
current_psw doubleword = doubleword / 2 ^ 48 * 2 ^ 48 + doubleword % 2 ^ 30

-- the number is that of a current PSW
abbrev pub IsCurrentPsw : ℕ → Type 0
IsCurrentPsw psw = (psw < 2 ^ 64) × (current_psw psw ≡ psw)

-- the doubleword that is stored for a PSW: interruption code in bits 16 to 31, instruction length code
-- in bits 32 and 33
abbrev pub stored_psw : ℕ → ℕ → ℕ → ℕ
stored_psw psw interruption_code length_code = psw + interruption_code * 2 ^ 32 + length_code * 2 ^ 30

-- whether a bit is one
abbrev pub is_bit_one : ℕ → ℕ → Bool
is_bit_one psw bit = nat_eq (psw / 2 ^ (63 - bit) % 2) 1

-- bits 0 to 6: the masks of channels 0 to 6
abbrev pub channel_mask_of : ℕ → ℕ → Bool
channel_mask_of psw channel = is_bit_one psw channel

-- bit 7
abbrev pub external_mask_of : ℕ → Bool
external_mask_of psw = is_bit_one psw 7

-- bits 8 to 11: the protection key
abbrev pub protection_key_of : ℕ → ℕ
protection_key_of psw = psw / 2 ^ 52 % 16

-- bit 12
abbrev pub ascii_mode_of : ℕ → Bool
ascii_mode_of psw = is_bit_one psw 12

-- bit 13
abbrev pub machine_check_mask_of : ℕ → Bool
machine_check_mask_of psw = is_bit_one psw 13

-- bit 14: the wait state
abbrev pub wait_of : ℕ → Bool
wait_of psw = is_bit_one psw 14

-- bit 15: the problem state
abbrev pub problem_state_of : ℕ → Bool
problem_state_of psw = is_bit_one psw 15

-- bits 34 and 35
abbrev pub condition_code_of : ℕ → ℕ
condition_code_of psw = psw / 2 ^ 28 % 4

-- bits 36 to 39, the program mask: fixed-point overflow, decimal overflow, exponent underflow, significance
abbrev pub fixed_point_overflow_mask_of : ℕ → Bool
fixed_point_overflow_mask_of psw = is_bit_one psw 36

abbrev pub decimal_overflow_mask_of : ℕ → Bool
decimal_overflow_mask_of psw = is_bit_one psw 37

abbrev pub exponent_underflow_mask_of : ℕ → Bool
exponent_underflow_mask_of psw = is_bit_one psw 38

abbrev pub significance_mask_of : ℕ → Bool
significance_mask_of psw = is_bit_one psw 39

-- bits 40 to 63
abbrev pub instruction_address_of : ℕ → ℕ
instruction_address_of psw = psw % 2 ^ 24

-- the PSW with another condition code
abbrev pub with_condition_code : ℕ → ℕ → ℕ
with_condition_code psw code = psw / 2 ^ 30 * 2 ^ 30 + code * 2 ^ 28 + psw % 2 ^ 28

-- the PSW with another instruction address, of which the low 24 bits count
abbrev pub with_instruction_address : ℕ → ℕ → ℕ
with_instruction_address psw address = psw / 2 ^ 24 * 2 ^ 24 + address % 2 ^ 24

-- the PSW with the condition code and the program mask that bits 2 to 7 of a word are
abbrev pub with_program_mask : ℕ → ℕ → ℕ
with_program_mask psw word = psw / 2 ^ 30 * 2 ^ 30 + word / 2 ^ 24 % 2 ^ 6 * 2 ^ 24 + psw % 2 ^ 24

-- the PSW with another system mask, bits 0 to 7
abbrev pub with_system_mask : ℕ → ℕ → ℕ
with_system_mask psw mask = mask * 2 ^ 56 + psw % 2 ^ 56
