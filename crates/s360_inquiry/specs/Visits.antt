-- The visits of an address (own profile): the events of the CPU that execute the instruction there, and those of a channel that execute
-- the command word there (GA22-6821, "System Structure", program execution; "Input/Output Operations", transfer in channel).
use Rattle.std.specs.Prelude.{ℕ, ◌+◌, ◌-◌, Bool, true, false, not, ◌&&◌, ◌||◌, nat_eq, nat_le, nat_lt, if◌then◌else◌, Option, Some, None, List, [], ◌∷◌, ◌++◌}
use Rattle.std.specs.Prelude.{codes, length}
use Rattle.std.specs.List.{flat_map, range_with_len}
use Rattle.s360_model.specs.Psw.{instruction_address_of}
use Rattle.s360_model.specs.Storage.{Storage}
use Rattle.s360_store.specs.declared.place.Place.TheVariants.{Register}
use Rattle.s360_channel.specs.declared.ccw.Ccw.{Ccw}
use Rattle.s360_channel.specs.declared.program.Program.{Program}
use Rattle.s360_channel.specs.declared.unit_state.UnitState.{UnitState}
use Rattle.s360_channel.specs.declared.unit_state.UnitState.TheVariants.{Active}
use Rattle.s360_channel.specs.ConfiguredUnits.{state_at}
use Rattle.s360_channel.specs.Programs.{ccw_at, is_loading}
use Rattle.s360_channel.specs.Words.{is_transfer}
use Rattle.s360_machine.specs.declared.cpu.CpuCase.{CpuCase}
use Rattle.s360_machine.specs.declared.cpu.CpuCase.TheVariants.{Executing}
use Rattle.s360_machine.specs.declared.event_kind.EventKind.{EventKind}
use Rattle.s360_machine.specs.declared.event_kind.EventKind.TheVariants.{Cpu, Channel}
use Rattle.s360_machine.specs.Cpu.{cpu_case}
use Rattle.s360_machine.specs.Machine.{Machine}
use Rattle.s360_journal.specs.Standing.{machine_of}
use Rattle.s360_journal.specs.Recorded.{Recorded, session_of}
use Rattle.s360_language.specs.Names.{place_name}
use Rattle.s360_language.specs.Values.{value_words}
use Rattle.s360_inquiry.specs.Changes.{just_before, kind_of_change, last_change_in, last_of, machine_after, words_of_change}
use Rattle.s360_inquiry.specs.Interruptions.{calls_supervisor}
use Rattle.s360_inquiry.specs.Searches.{numbers_up_to}

abbrev pub is_executing : CpuCase → Bool
is_executing Executing = true
is_executing other = false

-- a transfer in channel leads to an address
abbrev pub leads_to : Option Ccw → ℕ → Bool
leads_to None at = false
leads_to (Some ccw) at = is_transfer ccw && nat_eq ccw.address at

-- a program goes on with the command word at an address, or by a transfer in channel with that one. The word with which loading begins
-- stands nowhere
abbrev pub goes_on_at : Storage → Program → ℕ → Bool
goes_on_at s p at = not (is_loading p.progress) && (nat_eq p.address at || leads_to (ccw_at s p.address) at)

-- a unit that executes no program does not
abbrev pub state_goes_on_at : Storage → UnitState → ℕ → Bool
state_goes_on_at s (Active p) at = goes_on_at s p at
state_goes_on_at s other at = false

abbrev pub unit_goes_on_at : Storage → Option UnitState → ℕ → Bool
unit_goes_on_at s None at = false
unit_goes_on_at s (Some state) at = state_goes_on_at s state at

-- an event of this kind executes what is at an address of the machine that it meets
unfoldable pub executes_at : ℕ → Machine → EventKind → Bool
executes_at at m Cpu = is_executing (cpu_case m) && nat_eq (instruction_address_of m.core.psw) at
executes_at at m (Channel unit) = unit_goes_on_at m.core.storage (state_at m.units unit) at
executes_at at m kind = false

-- so does the event of the change of a number
abbrev pub if_event : (EventKind → Bool) → Option EventKind → Bool
if_event holds None = false
if_event holds (Some kind) = holds kind

abbrev pub is_visit : ℕ → Recorded → ℕ → Bool
is_visit at r number = if_event (executes_at at (machine_after r (number - 1))) (kind_of_change r number)

-- a last change is the one of a number, or a later one
abbrev pub is_since : Option ℕ → ℕ → Bool
is_since None first = false
is_since (Some last) first = nat_le first last

-- a register that was altered by the change of a number or later, with its word
abbrev pub register_since : Recorded → ℕ → ℕ → List ℕ
register_since r first n =
    if is_since (last_change_in r (Register n)) first
    then codes " " ++ place_name (Register n) ++ value_words (machine_of (session_of r)) (Register n) else []

abbrev pub registers_since : Recorded → ℕ → List ℕ
registers_since r first = flat_map (register_since r first) (range_with_len 0 16)

-- those since the visit before, if there is one
abbrev pub since_words : Recorded → Option ℕ → List ℕ
since_words r None = []
since_words r (Some before) = registers_since r before

-- a visit is told by its number and its event, and by the registers that were altered since the visit before
abbrev pub visit_line : Recorded → Option ℕ → ℕ → List ℕ
visit_line r before number = words_of_change r number ++ since_words (just_before r number) before ++ codes "\n"

abbrev pub visit_lines : Recorded → Option ℕ → List ℕ → List ℕ
visit_lines r before [] = []
visit_lines r before (number ∷ numbers) = visit_line r before number ++ visit_lines r (Some number) numbers

-- so many at most, the oldest first. If there is one more, it is the one before them
abbrev pub told_visits : Recorded → ℕ → List ℕ → List ℕ
told_visits r most [] = codes "visits none" ++ codes "\n"
told_visits r most (number ∷ numbers) =
    if nat_lt most (length (number ∷ numbers)) then visit_lines r (Some number) numbers else visit_lines r None (number ∷ numbers)

abbrev pub visits_by : Recorded → (ℕ → Bool) → ℕ → List ℕ
visits_by r holds most = told_visits r most (last_of (most + 1) (numbers_up_to holds r.standing))

-- those of an address, and supervisor calls with a code
abbrev pub visits_text : Recorded → ℕ → ℕ → List ℕ
visits_text r at most = visits_by r (is_visit at r) most

abbrev pub supervisor_calls_text : Recorded → ℕ → ℕ → List ℕ
supervisor_calls_text r code most = visits_by r (calls_supervisor code r) most
