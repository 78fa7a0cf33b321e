-- Rows of two operands of one length, byte by byte from left to right: what was stored is seen by later fetches (GA22-6821, "Logical Operations").
use Rattle.std.specs.Prelude.{ℕ, zero, suc, ◌+◌, ◌*◌, ◌/◌, ◌%◌, ◌^◌, nat_eq, if◌then◌else◌, Option, Some, None, [], ◌∷◌, pos}
use Rattle.s360_model.specs.{ConditionCodes.order_code, Psw.protection_key_of, Storage.Storage}
use Rattle.s360_store.specs.declared.protection.{Access.TheVariants.Fetch, Access.TheVariants.Store, Checked.Checked}
use Rattle.s360_store.specs.Protection.{access, met_of_both}
use Rattle.s360_fixed.specs.{Operands.conditions_of, Outcomes.unless_met, ProgramCodes.Conditions, View.Outcome, View.View, View.register_of}
use Rattle.s360_fixed.specs.Alterations.{after_alteration, set_to}
use Rattle.s360_logic.specs.{declared.field.Field.Field, declared.row.ByteCombination.ByteCombination, Immediate.code_alone}
use Rattle.s360_logic.specs.Bytes.{byte_at, byte_result, combination_code, completed_with, field_access, fields_conditions, operand_bytes, with_byte}

-- the storage after the bytes from number i on, so many of them, were made and stored, each of the storage as those before it left it
abbrev pub left_to_right : (ℕ → Storage → ℕ) → ℕ → ℕ → ℕ → Storage → Storage
left_to_right byte first i zero s = s
left_to_right byte first i (suc n) s = left_to_right byte first (i + 1) n (with_byte (first + i) (byte i s) s)

-- an operand of so many bytes
abbrev pub field_at : ℕ → ℕ → Field
field_at address count = record { address = address; count = count }

-- the rows whose bytes are made of the two bytes of the same number
abbrev pub combined_byte : ByteCombination → ℕ → ℕ → ℕ → Storage → ℕ
combined_byte c first second i s = byte_result c (byte_at s (first + i)) (byte_at s (second + i))

abbrev pub combined : ByteCombination → ℕ → ℕ → ℕ → Storage → Storage
combined c first second count s = left_to_right (combined_byte c first second) first 0 count s

abbrev pub combine_outcome : ByteCombination → View → ℕ → ℕ → ℕ → Outcome
combine_outcome c v first second count =
    let s = combined c first second count v.core.storage
    in unless_met (fields_conditions v Store (field_at first count) (field_at second count)) v.core
    (completed_with v (combination_code c (operand_bytes s first count)) s)

-- how the first bytes that differ compare: 0 where none does
abbrev pub comparison_code : Storage → ℕ → ℕ → ℕ → ℕ
comparison_code s first second zero = 0
comparison_code s first second (suc n) =
    if nat_eq (byte_at s first) (byte_at s second)
    then comparison_code s (first + 1) (second + 1) n
    else order_code (pos (byte_at s first)) (pos (byte_at s second))

abbrev pub compare_outcome : View → ℕ → ℕ → ℕ → Outcome
compare_outcome v first second count =
    unless_met (fields_conditions v Fetch (field_at first count) (field_at second count)) v.core
    (code_alone v (comparison_code v.core.storage first second count))

-- where a table has the function byte of an argument byte
abbrev pub function_address : ℕ → ℕ → ℕ
function_address table argument = (table + argument) % 2 ^ 24

-- the function byte that the byte at an address selects, and what its fetch meets under a key
abbrev pub function_byte : ℕ → ℕ → Storage → ℕ
function_byte table address s = byte_at s (function_address table (byte_at s address))

abbrev pub function_access : ℕ → ℕ → ℕ → Storage → Checked
function_access table key address s = access s (function_address table (byte_at s address)) 1 Fetch key

-- translate: each byte becomes the function byte that it selects
abbrev pub translated_byte : ℕ → ℕ → ℕ → Storage → ℕ
translated_byte table first i s = function_byte table (first + i) s

-- what the fetches of the function bytes meet, each byte being translated before the next: a function byte decides what follows though it is protected
abbrev pub translate_access : ℕ → ℕ → ℕ → ℕ → ℕ → Storage → Checked
translate_access table key first i zero s = Checked.Clear
translate_access table key first i (suc n) s =
    met_of_both (function_access table key (first + i) s)
    (translate_access table key first (i + 1) n (with_byte (first + i) (translated_byte table first i s) s))

abbrev pub translated : ℕ → ℕ → ℕ → Storage → Storage
translated table first count s = left_to_right (translated_byte table first) first 0 count s

-- the operand with the function bytes that it selects
abbrev pub translate_conditions : View → ℕ → ℕ → ℕ → Conditions
translate_conditions v first table count =
    let functions = translate_access table (protection_key_of v.core.psw) first 0 count v.core.storage
    in conditions_of (met_of_both (field_access v Store (field_at first count)) functions)

abbrev pub translate_outcome : View → ℕ → ℕ → ℕ → Outcome
translate_outcome v first table count =
    unless_met (translate_conditions v first table count) v.core
    (completed_with v None (translated table first count v.core.storage))

-- translate and test: the bytes select function bytes until one is not zero. The number of such a byte, where there is one
abbrev pub found_at : ℕ → ℕ → ℕ → ℕ → Storage → Option ℕ
found_at table first i zero s = None
found_at table first i (suc n) s =
    if nat_eq (function_byte table (first + i) s) 0 then found_at table first (i + 1) n s else Some i

-- what the fetches of the function bytes up to there meet
abbrev pub search_access : ℕ → ℕ → ℕ → ℕ → ℕ → Storage → Checked
search_access table key first i zero s = Checked.Clear
search_access table key first i (suc n) s =
    met_of_both (function_access table key (first + i) s)
    (if nat_eq (function_byte table (first + i) s) 0 then search_access table key first (i + 1) n s else Checked.Clear)

abbrev pub search_conditions : View → ℕ → ℕ → ℕ → Conditions
search_conditions v first table count =
    let functions = search_access table (protection_key_of v.core.psw) first 0 count v.core.storage
    in conditions_of (met_of_both (field_access v Fetch (field_at first count)) functions)

-- a register with another address in bits 8 to 31, and one with another byte in bits 24 to 31
abbrev pub with_address : ℕ → ℕ → ℕ
with_address word address = word / 2 ^ 24 * 2 ^ 24 + address

abbrev pub with_low_byte : ℕ → ℕ → ℕ
with_low_byte word byte = word / 256 * 256 + byte

-- the address of the argument byte is in register 1 and the function byte in register 2; the condition code is 1 before the last byte, and 2 at it
abbrev pub found_outcome : ℕ → ℕ → View → ℕ → ℕ → Outcome
found_outcome i byte v first count =
    after_alteration v.core (record {
      registers = (1, with_address (register_of v 1) (first + i)) ∷ ((2, with_low_byte (register_of v 2) byte) ∷ []);
      setting = set_to (if nat_eq (i + 1) count then 2 else 1);
      address = v.next_address;
    })

abbrev pub search_outcome : Option ℕ → View → ℕ → ℕ → ℕ → Outcome
search_outcome None v first table count = code_alone v 0
search_outcome (Some i) v first table count = found_outcome i (function_byte table (first + i) v.core.storage) v first count

abbrev pub translate_and_test_outcome : View → ℕ → ℕ → ℕ → Outcome
translate_and_test_outcome v first table count =
    unless_met (search_conditions v first table count) v.core
    (search_outcome (found_at table first 0 count v.core.storage) v first table count)
