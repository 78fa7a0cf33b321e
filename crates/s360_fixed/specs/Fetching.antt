-- Fetching the instruction at an address (GA22-6821, "System Structure", program execution).
use Rattle.std.specs.Prelude.{ℕ, ◌+◌, List, slice_index, slice_range}
use Rattle.s360_model.specs.Storage.{Storage}
use Rattle.s360_store.specs.{declared.protection.Access.TheVariants.Fetch, declared.protection.Checked.Checked, Protection.access}
use Rattle.s360_fixed.specs.{Operands.conditions_of, Outcomes.is_odd, ProgramCodes.Conditions, Table.instruction_length}

-- the length of the instruction that begins at an address, in bytes
abbrev pub length_at : Storage → ℕ → ℕ
length_at s address = instruction_length (slice_index s.bytes address)

-- its bytes
abbrev pub instruction_bytes : Storage → ℕ → List ℕ
instruction_bytes s address = slice_range s.bytes address (address + length_at s address)

-- what two accesses meet, of which the second is made where the first meets nothing
abbrev pub met_in_turn : Checked → Checked → Checked
met_in_turn Checked.Clear second = second
met_in_turn first second = first

-- what keeps it from being fetched with a protection key: its first halfword is looked at before the whole
abbrev pub fetch_conditions : Storage → ℕ → ℕ → Conditions
fetch_conditions s address key =
    let met = met_in_turn (access s address 2 Fetch key) (access s address (length_at s address) Fetch key)
    in record (conditions_of met) { specification = is_odd address }
