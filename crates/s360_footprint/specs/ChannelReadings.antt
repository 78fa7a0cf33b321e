-- The execution of one channel command word as a reading of storage, by what the unit and its device are (GA22-6821, "Input/Output Operations", execution of
-- input/output operations).
use Rattle.std.specs.Prelude.{ℕ, ◌+◌, ◌-◌, not, ◌&&◌, nat_eq, nat_le, if◌then◌else◌, Option, None, Some, List, [], ◌++◌, length, take}
use Rattle.std.specs.Option.{option_map_or}
use Rattle.s360_store.specs.declared.{protection.Access.Access, protection.Checked.Checked}
use Rattle.s360_device.specs.declared.device.Begin.{Begin}
use Rattle.s360_channel.specs.declared.{ccw.Ccw.Ccw, fetching.Fetched.Fetched, program.Program.Program, program.Progress.Progress}
use Rattle.s360_channel.specs.declared.{transfer.Transfer.Transfer, unit_state.UnitState.UnitState}
use Rattle.s360_channel.specs.Execution.{DeviceView, Execution, WordAtHand, after_check, after_input, after_output, command_with, ended_unit, input_transfer}
use Rattle.s360_channel.specs.Execution.{lowest_address, moves_nothing, output_transfer, refused_unit, run_of, stored_bytes, unless_checked, word_at_hand}
use Rattle.s360_channel.specs.Programs.{executed_at, goes_on_with_record, is_first, is_loading, loading_word}
use Rattle.s360_channel.specs.Words.{ccw_of, is_doubleword_address, is_transfer, meets_program_check, reads_backward}
use Rattle.s360_footprint.specs.OperandReadings.{Profile, access_read, number_read}
use Rattle.s360_footprint.specs.Readings.{Reading, bind, done}

-- the word at an address, where it is that of a doubleword inside storage
abbrev pub ccw_read : Profile → ℕ → Reading (Option Ccw)
ccw_read p address =
    if is_doubleword_address address && nat_le (address + 8) p.size
    then bind (number_read address 8) (λ doubleword. done (Some (ccw_of doubleword))) else done None

-- the word with which a program goes on: a transfer in channel that is not the first leads to another one
abbrev pub led_to_by : Progress → ℕ → Ccw → Option Ccw → Fetched
led_to_by progress address c target = option_map_or (executed_at (goes_on_with_record progress) c.address) target (Fetched.Broken address)

abbrev pub word_or_target : Profile → Progress → ℕ → Option Ccw → Reading Fetched
word_or_target p progress address None = done (Fetched.Broken address)
word_or_target p progress address (Some c) =
    if is_transfer c && not (is_first progress) then bind (ccw_read p c.address) (λ target. done (led_to_by progress address c target))
    else done (executed_at (goes_on_with_record progress) address c)

abbrev pub next_ccw_read : Profile → Program → Reading Fetched
next_ccw_read p program =
    if is_loading program.progress then done (Fetched.Whole 0 (ccw_of loading_word))
    else bind (ccw_read p program.address) (word_or_target p program.progress program.address)

-- what so many bytes meet, from their lowest address on
abbrev pub bytes_met : Profile → ℕ → Access → ℕ → Option ℕ → Reading Checked
bytes_met p key kind count None = done Checked.Addressing
bytes_met p key kind count (Some address) = if nat_eq count 0 then done Checked.Clear else access_read p address count kind key

-- what the bytes meet that a word would store or fetch; where none moves, nothing
abbrev pub input_bytes : WordAtHand → ℕ → List ℕ
input_bytes w total = stored_bytes w (input_transfer w.ccw (total - w.moved)).count

abbrev pub lowest_of : WordAtHand → List ℕ → Option ℕ
lowest_of w bytes = lowest_address (reads_backward w.command) w.ccw.address (length bytes)

abbrev pub output_of : WordAtHand → ℕ → Transfer
output_of w limit = output_transfer w.ccw (limit - length w.gathered)

abbrev pub begun_met : Profile → WordAtHand → Begin → Reading Checked
begun_met p w (Begin.Input total) =
    bytes_met p w.program.key Access.Store (length (input_bytes w total)) (lowest_of w (input_bytes w total))
begun_met p w (Begin.Output limit) = bytes_met p w.program.key Access.Fetch (output_of w limit).count (Some w.ccw.address)
begun_met p w begin = done Checked.Clear

-- a word that was found, as the device begins its command
abbrev pub begin_at : DeviceView → Program → Ccw → Begin
begin_at d program c = d.begin (command_with program.progress c)

abbrev pub word_met : Profile → DeviceView → Program → Fetched → Reading Checked
word_met p d program (Fetched.Broken last) = done Checked.Clear
word_met p d program (Fetched.Whole at c) = begun_met p (word_at_hand d program at c) (begin_at d program c)

-- an output takes the bytes that it fetches in this way
abbrev pub Fetching : Type 0
Fetching = ℕ → ℕ → Reading (List ℕ)

abbrev pub output_with : WordAtHand → ℕ → Transfer → List ℕ → Execution
output_with w limit t fetched = after_output w t (take limit (w.gathered ++ fetched))

abbrev pub output_read : Fetching → WordAtHand → ℕ → Transfer → Checked → Reading Execution
output_read fetch w limit t Checked.Clear = bind (fetch w.ccw.address t.count) (λ fetched. done (output_with w limit t fetched))
output_read fetch w limit t met = done (unless_checked w met (output_with w limit t []))

-- what a word does, by what its bytes meet
abbrev pub begun_read : Fetching → WordAtHand → Checked → Begin → Reading Execution
begun_read fetch w met (Begin.Input total) =
    let bytes : List ℕ = input_bytes w total
    in done (unless_checked w met (record (after_input w (input_transfer w.ccw (total - w.moved))) { stores = run_of (lowest_of w bytes) bytes }))
begun_read fetch w met (Begin.Output limit) = output_read fetch w limit (output_of w limit) met
begun_read fetch w met Begin.Control = done (moves_nothing w (ended_unit w.exception))
begun_read fetch w met (Begin.Refused sense) = done (moves_nothing w refused_unit)
begun_read fetch w met Begin.NotYet = done (record { stores = None; state = UnitState.Active w.program; ending = None })

abbrev pub word_read : Fetching → DeviceView → Program → Fetched → Checked → Reading Execution
word_read fetch d program (Fetched.Broken last) met = done (after_check program last meets_program_check)
word_read fetch d program (Fetched.Whole at c) met = begun_read fetch (word_at_hand d program at c) met (begin_at d program c)
