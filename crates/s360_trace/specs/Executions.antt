-- What an event executes, as fields of a line: the address, the digits and the mnemonic, each after a comma (GA22-6821, "System
-- Structure", program execution; "Input/Output Operations", channel command word; own profile).
use Rattle.std.specs.Prelude.{ℕ, nat_lt, if◌then◌else◌, Option, Some, None, List, [], ◌++◌, codes, length, slice_index}
use Rattle.s360_model.specs.Psw.{instruction_address_of}
use Rattle.s360_model.specs.Storage.{Storage}
use Rattle.s360_model.specs.Text.{hex_bytes, hex_text}
use Rattle.s360_channel.specs.declared.fetching.Fetched.{Fetched}
use Rattle.s360_channel.specs.declared.fetching.Fetched.TheVariants.{Broken, Whole}
use Rattle.s360_channel.specs.declared.program.Program.{Program}
use Rattle.s360_channel.specs.declared.unit_state.UnitState.{UnitState}
use Rattle.s360_channel.specs.declared.unit_state.UnitState.TheVariants.{Active}
use Rattle.s360_channel.specs.ConfiguredUnits.{state_at}
use Rattle.s360_channel.specs.Programs.{is_loading, next_ccw}
use Rattle.s360_machine.specs.declared.event_kind.EventKind.{EventKind}
use Rattle.s360_machine.specs.declared.event_kind.EventKind.TheVariants.{Cpu, Channel}
use Rattle.s360_machine.specs.declared.cpu.CpuCase.{CpuCase}
use Rattle.s360_machine.specs.declared.cpu.CpuCase.TheVariants.{Executing}
use Rattle.s360_machine.specs.Cpu.{cpu_case}
use Rattle.s360_machine.specs.Machine.{Machine}
use Rattle.s360_inquiry.specs.Happenings.{command_word_at, fetched_bytes}
use Rattle.s360_inquiry.specs.Mnemonics.{mnemonic_of}

-- nothing is executed
abbrev pub nothing_executed : List ℕ
nothing_executed = codes ",,,"

-- the mnemonic, where the first byte of an instruction is an operation code
abbrev pub mnemonic_field : Option (List ℕ) → List ℕ
mnemonic_field None = codes ","
mnemonic_field (Some mnemonic) = codes "," ++ mnemonic

-- the bytes of an instruction in storage, and its mnemonic
abbrev pub bytes_fields : Storage → ℕ → List ℕ
bytes_fields s at = (codes "," ++ hex_bytes (fetched_bytes s at)) ++ mnemonic_field (mnemonic_of (slice_index s.bytes at))

-- an instruction, which may be outside storage
abbrev pub instruction_fields : Storage → ℕ → List ℕ
instruction_fields s at = (codes "," ++ hex_text 6 at) ++ (if nat_lt at (length s.bytes) then bytes_fields s at else codes ",,")

-- the CPU executes none where it is interrupted in place of one, waits or does not operate
abbrev pub case_fields : CpuCase → Machine → List ℕ
case_fields Executing m = instruction_fields m.core.storage (instruction_address_of m.core.psw)
case_fields case m = nothing_executed

unfoldable pub cpu_fields : Machine → List ℕ
cpu_fields m = case_fields (cpu_case m) m

-- where the word stands that a channel finds, which is behind a transfer in channel the one that it leads to; or the last word
-- that it looks at
abbrev pub address_of_word : Fetched → ℕ
address_of_word (Broken at) = at
address_of_word (Whole at ccw) = at

abbrev pub digits_of_word : Option ℕ → List ℕ
digits_of_word None = []
digits_of_word (Some word) = hex_text 16 word

-- a command word, if one stands there; it has no mnemonic
abbrev pub word_fields : Storage → ℕ → List ℕ
word_fields s at = (codes "," ++ hex_text 6 at) ++ codes "," ++ digits_of_word (command_word_at s at) ++ codes ","

-- the word with which loading begins stands nowhere
abbrev pub program_fields : Storage → Program → List ℕ
program_fields s p = if is_loading p.progress then nothing_executed else word_fields s (address_of_word (next_ccw s p))

-- a unit that executes no program has none
abbrev pub state_fields : Storage → UnitState → List ℕ
state_fields s (Active p) = program_fields s p
state_fields s other = nothing_executed

abbrev pub unit_fields : Storage → Option UnitState → List ℕ
unit_fields s None = nothing_executed
unit_fields s (Some state) = state_fields s state

-- any other event executes nothing
unfoldable pub executed_fields : Machine → EventKind → List ℕ
executed_fields m Cpu = cpu_fields m
executed_fields m (Channel unit) = unit_fields m.core.storage (state_at m.units unit)
executed_fields m kind = nothing_executed
