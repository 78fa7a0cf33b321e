-- Rows of a byte in storage and the byte of the instruction (GA22-6821, "Logical Operations").
use Rattle.std.specs.Prelude.{ℕ, ◌/◌, nat_eq, if◌then◌else◌, Some, [], ◌∷◌, pos, bit_and}
use Rattle.s360_model.specs.ConditionCodes.{order_code}
use Rattle.s360_store.specs.declared.protection.Access.{Access}
use Rattle.s360_fixed.specs.{Operands.access_conditions, Outcomes.unless_met, View.Outcome, View.View}
use Rattle.s360_fixed.specs.Alterations.{after_alteration, no_register, set_to}
use Rattle.s360_logic.specs.declared.row.ImmediateRow.{ImmediateRow}
use Rattle.s360_logic.specs.Bytes.{byte_at, byte_result, combination_code, completed_with, with_byte}

-- test under mask: 0 where the selected bits are all zero or none is selected, 3 where they are all one, else 1
abbrev pub mask_code : ℕ → ℕ → ℕ
mask_code byte mask =
    if nat_eq (bit_and byte mask) 0 then 0 else (if nat_eq (bit_and byte mask) mask then 3 else 1)

-- a condition code is set, and nothing else is altered
abbrev pub code_alone : View → ℕ → Outcome
code_alone v code = after_alteration v.core (no_register (set_to code) v.next_address)

-- what a row makes of the byte at an address: another byte and a condition code, or a condition code alone
abbrev pub immediate_result : ImmediateRow → View → ℕ → ℕ → ℕ → Outcome
immediate_result (ImmediateRow.Combine c) v byte i2 address =
    let result = byte_result c byte i2
    in completed_with v (combination_code c (result ∷ [])) (with_byte address result v.core.storage)
immediate_result ImmediateRow.Compare v byte i2 address = code_alone v (order_code (pos byte) (pos i2))
immediate_result ImmediateRow.TestUnderMask v byte i2 address = code_alone v (mask_code byte i2)
immediate_result ImmediateRow.TestAndSet v byte i2 address = completed_with v (Some (byte / 128)) (with_byte address 0xFF v.core.storage)

-- whether it stores the byte
abbrev pub immediate_access : ImmediateRow → Access
immediate_access (ImmediateRow.Combine c) = Access.Store
immediate_access ImmediateRow.Compare = Access.Fetch
immediate_access ImmediateRow.TestUnderMask = Access.Fetch
immediate_access ImmediateRow.TestAndSet = Access.Store

abbrev pub immediate_outcome : ImmediateRow → View → ℕ → ℕ → Outcome
immediate_outcome row v i2 address =
    unless_met (access_conditions v.core address 1 1 (immediate_access row)) v.core
    (immediate_result row v (byte_at v.core.storage address) i2 address)
