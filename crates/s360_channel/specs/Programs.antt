-- Channel programs: where the next channel command word is, and what keeps it from being executed (GA22-6821, "Input/Output Operations", channel command word,
-- transfer in channel, and program check).
use Rattle.std.specs.Prelude.{ℕ, ◌%◌, Bool, true, false, not, ◌&&◌, ◌||◌, nat_eq, if◌then◌else◌, Option, Some, None}
use Rattle.std.specs.Option.{option_map_or}
use Rattle.s360_model.specs.Storage.{Storage, doubleword_at, is_inside}
use Rattle.s360_channel.specs.declared.{ccw.Ccw.Ccw, program.Program.Program, program.Progress.Progress, fetching.Fetched.Fetched}
use Rattle.s360_channel.specs.Words.{ccw_of, is_doubleword_address, is_transfer}

-- the word at an address, where it is that of a doubleword inside storage
abbrev pub ccw_at : Storage → ℕ → Option Ccw
ccw_at s address = if is_doubleword_address address && is_inside s address 8 then Some (ccw_of (doubleword_at s.bytes address)) else None

-- a program that starts at an address
abbrev pub program_at : ℕ → ℕ → Program
program_at key address = record { key = key; address = address; progress = Progress.First }

-- initial program loading begins with a program of key 0, and with a word as if it stood at address 0: read 24 bytes to address 0, chained to the command at 8,
-- with a length that is not told (GA22-6821, "System Control Panel", initial program loading)
abbrev pub loading_program : Program
loading_program = record { key = 0; address = 0; progress = Progress.Loading }

abbrev pub loading_word : ℕ
loading_word = 0x0200_0000_6000_0018

-- it has executed no word yet, and its first is that of loading
abbrev pub is_loading : Progress → Bool
is_loading Progress.Loading = true
is_loading other = false

-- it has executed no word yet, and its first stands in storage
abbrev pub is_first : Progress → Bool
is_first Progress.First = true
is_first other = false

-- the next word goes on with the same record
abbrev pub goes_on_with_record : Progress → Bool
goes_on_with_record (Progress.InputChained command moved) = true
goes_on_with_record (Progress.OutputChained command gathered) = true
goes_on_with_record other = false

-- a word that is no transfer in channel can be executed: bits 37 to 39 are zero, its count is not, and the low four bits of its command are not zero, unless it
-- goes on with the same record, where its command is ignored
abbrev pub is_executable : Bool → Ccw → Bool
is_executable same_record c = nat_eq c.reserved 0 && (not (nat_eq c.count 0) && (same_record || not (nat_eq (c.command % 16) 0)))

-- the word at an address that is to be executed; a program check where it cannot be, or is a transfer in channel
abbrev pub executed_at : Bool → ℕ → Ccw → Fetched
executed_at same_record address c = if not (is_transfer c) && is_executable same_record c then Fetched.Whole address c else Fetched.Broken address

-- the word that a transfer in channel leads to: a target that is no word leaves the transfer as the last one (own profile)
abbrev pub transferred_to : Storage → Bool → ℕ → Ccw → Fetched
transferred_to s same_record address transfer =
    option_map_or (executed_at same_record transfer.address) (ccw_at s transfer.address) (Fetched.Broken address)

-- the word with which a program goes on: at its next address, or where a transfer in channel stands there, and is not the first, the one that it leads to
abbrev pub next_ccw_with : Storage → Progress → ℕ → Option Ccw → Fetched
next_ccw_with s progress address None = Fetched.Broken address
next_ccw_with s progress address (Some c) =
    if is_transfer c && not (is_first progress) then transferred_to s (goes_on_with_record progress) address c
    else executed_at (goes_on_with_record progress) address c

abbrev pub next_ccw : Storage → Program → Fetched
next_ccw s p = if is_loading p.progress then Fetched.Whole 0 (ccw_of loading_word) else next_ccw_with s p.progress p.address (ccw_at s p.address)
