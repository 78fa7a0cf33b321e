-- The rows of two operands in storage that go from left to right, as readings: what was stored is seen by later fetches (GA22-6821, "Logical Operations").
use Rattle.std.specs.Prelude.{ℕ, zero, suc, ◌+◌, Bool, true, false, nat_eq, if◌then◌else◌, Option, None, Some, List, [], ◌∷◌, ◌++◌, pos}
use Rattle.s360_model.specs.{ConditionCodes.order_code, Psw.protection_key_of}
use Rattle.s360_store.specs.declared.place.Place.TheVariants.{Psw, Register, Byte}
use Rattle.s360_store.specs.declared.protection.{Access.Access, Checked.Checked}
use Rattle.s360_store.specs.Protection.{met_of_both}
use Rattle.s360_fixed.specs.declared.ended.Ended.{Ended}
use Rattle.s360_fixed.specs.{Operands.conditions_of, ProgramCodes.Conditions, ProgramCodes.program_code}
use Rattle.s360_logic.specs.declared.{field.Field.Field, row.ByteCombination.ByteCombination}
use Rattle.s360_logic.specs.declared.row.ByteCombination.TheVariants.{Second, BitwiseAnd, BitwiseOr, BitwiseExclusiveOr}
use Rattle.s360_logic.specs.Bytes.{byte_result, combination_code}
use Rattle.s360_logic.specs.LeftToRight.{field_at, function_address, with_address, with_low_byte}
use Rattle.s360_footprint.specs.Altering.{Altering, altering_row, psw_store, unless_refused}
use Rattle.s360_footprint.specs.OperandReadings.{Profile, access_read, bytes_read}
use Rattle.s360_footprint.specs.Readings.{Reading, bind, done, read, value_read}
use Rattle.s360_footprint.specs.Rows.{Row, Store}

-- what makes the byte of a number, of the bytes at addresses as they then stand
abbrev pub Making : Type 0
Making = ℕ → (ℕ → Reading ℕ) → Reading ℕ

-- the byte at an address after so many bytes of an operand were made one after another
abbrev pub byte_after : Making → ℕ → ℕ → ℕ → Reading ℕ
byte_after making first zero a = value_read (Byte a)
byte_after making first (suc n) a =
    if nat_eq (first + n) a then making n (byte_after making first n) else byte_after making first n a

-- so many bytes are made and stored
abbrev pub made_stores : Making → ℕ → ℕ → List Store
made_stores making first zero = []
made_stores making first (suc n) =
    made_stores making first n ++ record { place = Byte (first + n); value = making n (byte_after making first n) } ∷ []

-- so many bytes from an address on, after so many of an operand were made
abbrev pub made_read : Making → ℕ → ℕ → ℕ → ℕ → Reading (List ℕ)
made_read making first count a zero = done []
made_read making first count a (suc n) =
    bind (byte_after making first count a) (λ b. bind (made_read making first count (a + 1) n) (λ bs. done (b ∷ bs)))

-- a move takes the byte of the second operand; other combinations take both bytes of a number; and a translation the byte and its function byte
abbrev pub combining : ByteCombination → ℕ → ℕ → Making
combining Second first second i byte = byte (second + i)
combining c first second i byte = bind (byte (first + i)) (λ a. bind (byte (second + i)) (λ b. done (byte_result c a b)))

abbrev pub translating : ℕ → ℕ → Making
translating table first i byte = bind (byte (first + i)) (λ b. byte (function_address table b))

-- what the accesses to two operands meet, of which the second is fetched
abbrev pub field_read : Profile → Access → Field → ℕ → Reading Checked
field_read p kind field key = access_read p field.address field.count kind key

abbrev pub both_met : Reading Checked → Reading Checked → Reading Conditions
both_met first second = bind first (λ a. bind second (λ b. done (conditions_of (met_of_both a b))))

abbrev pub fields_read : Profile → Access → Field → Field → Reading Conditions
fields_read p kind first second =
    read Psw (λ psw.
    let key = protection_key_of psw
    in both_met (field_read p kind first key) (field_read p Access.Fetch second key))

-- an instruction is completed with stores and a condition code, if one is set
abbrev pub stored_row : List Store → Reading (Option ℕ) → ℕ → Row Ended
stored_row stores code next = done (record { ended = Ended.Done; stores = stores ++ psw_store code (done next) })

-- the condition code comes of all bytes of the result
abbrev pub sets_code : ByteCombination → Bool
sets_code BitwiseAnd = true
sets_code BitwiseOr = true
sets_code BitwiseExclusiveOr = true
sets_code c = false

abbrev pub result_code_read : ByteCombination → Making → ℕ → ℕ → Reading (Option ℕ)
result_code_read c making first count =
    if sets_code c then bind (made_read making first count first count) (λ results. done (combination_code c results)) else done None

abbrev pub combine_row : Profile → ByteCombination → ℕ → ℕ → ℕ → ℕ → Row Ended
combine_row p c first second count next =
    let making = combining c first second
    in bind (fields_read p Access.Store (field_at first count) (field_at second count)) (λ conditions.
    unless_refused (program_code conditions) (stored_row (made_stores making first count) (result_code_read c making first count) next))

-- how the first bytes of two lists that differ compare
abbrev pub compared : List ℕ → List ℕ → ℕ
compared [] ys = 0
compared xs [] = 0
compared (x ∷ xs) (y ∷ ys) = if nat_eq x y then compared xs ys else order_code (pos x) (pos y)

abbrev pub code_altering : Reading ℕ → ℕ → Altering
code_altering code next = record { registers = []; code = bind code (λ c. done (Some c)); overflow = done false; address = done next }

abbrev pub comparison_read : ℕ → ℕ → ℕ → Reading ℕ
comparison_read first second count = bind (bytes_read first count) (λ xs. bind (bytes_read second count) (λ ys. done (compared xs ys)))

abbrev pub compare_row : Profile → ℕ → ℕ → ℕ → ℕ → Row Ended
compare_row p first second count next =
    bind (fields_read p Access.Fetch (field_at first count) (field_at second count)) (λ conditions.
    unless_refused (program_code conditions) (altering_row (code_altering (comparison_read first second count) next)))

-- what the fetches of the function bytes meet that the bytes select, each byte being translated before the next
abbrev pub function_met : Profile → ℕ → ℕ → ℕ → Reading Checked
function_met p table key b = access_read p (function_address table b) 1 Access.Fetch key

abbrev pub translate_met : Profile → ℕ → ℕ → ℕ → ℕ → ℕ → Reading Checked
translate_met p table key first i zero = done Checked.Clear
translate_met p table key first i (suc n) =
    bind (byte_after (translating table first) first i (first + i)) (λ b.
    bind (function_met p table key b) (λ met.
    bind (translate_met p table key first (i + 1) n) (λ later. done (met_of_both met later))))

abbrev pub translate_conditions_read : Profile → ℕ → ℕ → ℕ → Reading Conditions
translate_conditions_read p first table count =
    read Psw (λ psw.
    let key = protection_key_of psw
    in both_met (field_read p Access.Store (field_at first count) key) (translate_met p table key first 0 count))

abbrev pub translate_row : Profile → ℕ → ℕ → ℕ → ℕ → Row Ended
translate_row p first table count next =
    bind (translate_conditions_read p first table count) (λ conditions.
    unless_refused (program_code conditions) (stored_row (made_stores (translating table first) first count) (done None) next))

-- a search for a byte that selects a function byte which is not zero: its number and the function byte
abbrev pub found_or : ℕ → ℕ → Reading (Option (ℕ × ℕ)) → Reading (Option (ℕ × ℕ))
found_or i function later = if nat_eq function 0 then later else done (Some (i, function))

abbrev pub search_read : ℕ → ℕ → ℕ → ℕ → Reading (Option (ℕ × ℕ))
search_read table first i zero = done None
search_read table first i (suc n) =
    read (Byte (first + i)) (λ b.
    read (Byte (function_address table b)) (λ function. found_or i function (search_read table first (i + 1) n)))

abbrev pub met_or : Checked → ℕ → Reading Checked → Reading Checked
met_or met function later = if nat_eq function 0 then bind later (λ l. done (met_of_both met l)) else done (met_of_both met Checked.Clear)

abbrev pub search_met : Profile → ℕ → ℕ → ℕ → ℕ → ℕ → Reading Checked
search_met p table key first i zero = done Checked.Clear
search_met p table key first i (suc n) =
    read (Byte (first + i)) (λ b.
    bind (function_met p table key b) (λ met.
    read (Byte (function_address table b)) (λ function. met_or met function (search_met p table key first (i + 1) n))))

abbrev pub search_conditions_read : Profile → ℕ → ℕ → ℕ → Reading Conditions
search_conditions_read p first table count =
    read Psw (λ psw.
    let key = protection_key_of psw
    in both_met (field_read p Access.Fetch (field_at first count) key) (search_met p table key first 0 count))

-- the registers and the condition code, of what is found; none is found: the registers stay
abbrev pub found_code : ℕ → Option (ℕ × ℕ) → ℕ
found_code count None = 0
found_code count (Some found) = if nat_eq (found.0 + 1) count then 2 else 1

abbrev pub made_of_found : (ℕ → ℕ × ℕ → ℕ) → ℕ → Option (ℕ × ℕ) → ℕ
made_of_found make word None = word
made_of_found make word (Some found) = make word found

abbrev pub found_register : Reading (Option (ℕ × ℕ)) → ℕ → (ℕ → ℕ × ℕ → ℕ) → ℕ × Reading ℕ
found_register search r make = (r, read (Register r) (λ word. bind search (λ found. done (made_of_found make word found))))

abbrev pub found_registers : Reading (Option (ℕ × ℕ)) → ℕ → Option (ℕ × ℕ) → List (ℕ × Reading ℕ)
found_registers search first None = []
found_registers search first (Some found) =
    found_register search 1 (λ word (f : ℕ × ℕ). with_address word (first + f.0)) ∷ (found_register search 2 (λ word (f : ℕ × ℕ). with_low_byte word f.1) ∷ [])

abbrev pub found_altering : Reading (Option (ℕ × ℕ)) → ℕ → ℕ → ℕ → Option (ℕ × ℕ) → Altering
found_altering search first count next found = record {
  registers = found_registers search first found;
  code = bind search (λ f. done (Some (found_code count f)));
  overflow = done false;
  address = done next;
}

abbrev pub searched_row : ℕ → ℕ → ℕ → ℕ → Row Ended
searched_row first table count next =
    let search = search_read table first 0 count
    in bind search (λ found. altering_row (found_altering search first count next found))

abbrev pub translate_and_test_row : Profile → ℕ → ℕ → ℕ → ℕ → Row Ended
translate_and_test_row p first table count next =
    bind (search_conditions_read p first table count) (λ conditions.
    unless_refused (program_code conditions) (searched_row first table count next))
