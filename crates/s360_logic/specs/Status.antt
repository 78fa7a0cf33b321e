-- Status switching: the PSW and its masks, the storage keys and the supervisor call (GA22-6821, "Status Switching", and "System Structure", protection
-- feature). All but SPM and SVC are privileged: in the problem state they are refused before anything else is looked at.
use Rattle.std.specs.Prelude.{ℕ, ◌+◌, ◌*◌, ◌/◌, ◌%◌, ◌^◌, Bool, not, ◌&&◌, nat_eq, nat_le, if◌then◌else◌, length, slice_index}
use Rattle.s360_model.specs.Core.{core_with_key, core_with_psw, core_with_word}
use Rattle.s360_model.specs.Psw.{current_psw, problem_state_of, with_program_mask, with_system_mask}
use Rattle.s360_model.specs.Storage.{block_size, doubleword_at, fetch_bit_of_block, key_of_block, with_fetch_bit}
use Rattle.s360_word.specs.declared.unit.Unit.{Unit}
use Rattle.s360_store.specs.declared.protection.Access.TheVariants.{Fetch}
use Rattle.s360_fixed.specs.declared.ended.Ended.TheVariants.{Done, Svc, Io}
use Rattle.s360_fixed.specs.{Operands.access_conditions, Outcomes.unless_met, Storing.completed, Storing.next_psw, View.Outcome, View.View, View.register_of}
use Rattle.s360_fixed.specs.ProgramCodes.{Conditions, no_conditions}
use Rattle.s360_logic.specs.{declared.row.KeyRow.KeyRow, declared.row.RegisterStatus.RegisterStatus, declared.row.StorageStatus.StorageStatus, Bytes.byte_at}

-- what a privileged instruction meets beside its other conditions
abbrev pub privileged : View → Conditions → Conditions
privileged v c = record c { privileged = problem_state_of v.core.psw }

-- the instruction is completed with this PSW
abbrev pub with_psw : View → ℕ → Outcome
with_psw v psw = record { ended = Done; core = core_with_psw psw v.core }

-- the block that bits 8 to 20 of a word name, by its number
abbrev pub block_of : ℕ → ℕ
block_of word = word / block_size % 2 ^ 13

-- bits 28 to 31 of the word are zero, and the block is inside storage
abbrev pub key_conditions : View → ℕ → Conditions
key_conditions v word = privileged v (record no_conditions {
  specification = not (nat_eq (word % 16) 0);
  addressing = nat_le (length v.core.storage.keys) (block_of word);
})

-- the key in bits 24 to 27 of a word, and where fetches are protected the fetch bit, which is bit 28
abbrev pub key_in : Bool → ℕ → ℕ
key_in fetch_protection word = with_fetch_bit (word / 16 % 16) (fetch_protection && nat_eq (word / 8 % 2) 1)

-- the word with another key and fetch bit there, and zeros in bits 29 to 31
abbrev pub with_key_in : ℕ → ℕ → ℕ
with_key_in word key = word / 256 * 256 + key_of_block key * 16 + (if fetch_bit_of_block key then 8 else 0)

-- the key of the block that R2 names becomes that in R1, or is put into R1, with the fetch bit
abbrev pub key_outcome : KeyRow → View → ℕ → ℕ → Outcome
key_outcome KeyRow.Set v r1 block = completed v (core_with_key block (key_in v.core.storage.fetch_protection (register_of v r1)) v.core)
key_outcome KeyRow.Insert v r1 block = completed v (core_with_word r1 (with_key_in (register_of v r1) (slice_index v.core.storage.keys block)) v.core)

-- the rows of the format RR; the code of a supervisor call is the second byte of the instruction
abbrev pub register_status_outcome : RegisterStatus → View → ℕ → ℕ → Outcome
register_status_outcome RegisterStatus.SetProgramMask v r1 r2 = with_psw v (with_program_mask (next_psw v) (register_of v r1))
register_status_outcome RegisterStatus.SupervisorCall v r1 r2 = record { ended = Svc (r1 * 16 + r2); core = v.core }
register_status_outcome (RegisterStatus.StorageKey row) v r1 r2 =
    unless_met (key_conditions v (register_of v r2)) v.core (key_outcome row v r1 (block_of (register_of v r2)))

-- an operand of so many bytes, on the boundary of their number, that a privileged instruction fetches
abbrev pub privileged_fetch : View → ℕ → ℕ → Conditions
privileged_fetch v address count = privileged v (access_conditions v.core address count count Fetch)

-- channel in bits 21 to 23 and device in 24 to 31 of an address; other bits are ignored (own profile)
abbrev pub unit_of : ℕ → Unit
unit_of address = record { 0 = address % 2 ^ 11 }

-- the rows of the format SI: the system mask becomes a byte, the PSW a doubleword; the unit that bits 21 to 31 of the address name is handed to the channels
abbrev pub storage_status_outcome : StorageStatus → View → ℕ → Outcome
storage_status_outcome StorageStatus.SetSystemMask v address =
    unless_met (privileged_fetch v address 1) v.core (with_psw v (with_system_mask (next_psw v) (byte_at v.core.storage address)))
storage_status_outcome StorageStatus.LoadPsw v address =
    unless_met (privileged_fetch v address 8) v.core (with_psw v (current_psw (doubleword_at v.core.storage.bytes address)))
storage_status_outcome (StorageStatus.InputOutput operation) v address =
    unless_met (privileged v no_conditions) v.core (record { ended = Io operation (unit_of address); core = v.core })
