-- What loading, storing and the two changes of a PSW keep.
use Rattle.std.proofs.Common.{arith, ◌≡◌, ℕ, ◌<◌, ◌%◌, ◌^◌}
use Rattle.s360_model.specs.Psw.{IsCurrentPsw, current_psw, stored_psw, condition_code_of, instruction_address_of, with_condition_code, with_instruction_address}

-- loading
pub IsCurrentPsw-current_psw : (d : ℕ) → d < 2 ^ 64 → IsCurrentPsw (current_psw d)
IsCurrentPsw-current_psw d h = omega arith

-- storing
pub current_psw-stored_psw : (p c i : ℕ) → IsCurrentPsw p → c < 2 ^ 16 → i < 4 → current_psw (stored_psw p c i) ≡ p
current_psw-stored_psw p c i h hc hi = omega arith

pub stored_psw-zero : (p : ℕ) → stored_psw p 0 0 ≡ p
stored_psw-zero p = omega arith

pub stored_psw-below : (p c i : ℕ) → IsCurrentPsw p → c < 2 ^ 16 → i < 4 → stored_psw p c i < 2 ^ 64
stored_psw-below p c i h hc hi = omega arith

-- another condition code
pub IsCurrentPsw-with_condition_code : (p c : ℕ) → IsCurrentPsw p → c < 4 → IsCurrentPsw (with_condition_code p c)
IsCurrentPsw-with_condition_code p c h hc = omega arith

pub condition_code_of-with_condition_code : (p c : ℕ) → c < 4 → condition_code_of (with_condition_code p c) ≡ c
condition_code_of-with_condition_code p c hc = omega arith

pub instruction_address_of-with_condition_code : (p c : ℕ) → instruction_address_of (with_condition_code p c) ≡ instruction_address_of p
instruction_address_of-with_condition_code p c = omega arith

-- another instruction address
pub IsCurrentPsw-with_instruction_address : (p a : ℕ) → IsCurrentPsw p → IsCurrentPsw (with_instruction_address p a)
IsCurrentPsw-with_instruction_address p a h = omega arith

pub instruction_address_of-with_instruction_address : (p a : ℕ) → instruction_address_of (with_instruction_address p a) ≡ a % 2 ^ 24
instruction_address_of-with_instruction_address p a = omega arith

pub condition_code_of-with_instruction_address : (p a : ℕ) → condition_code_of (with_instruction_address p a) ≡ condition_code_of p
condition_code_of-with_instruction_address p a = omega arith
