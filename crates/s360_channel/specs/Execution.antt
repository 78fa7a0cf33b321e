-- One channel event: the execution of one channel command word over a device (GA22-6821, "Input/Output Operations", execution, chaining and conclusion).
use Rattle.std.specs.Prelude.{ℕ, ◌+◌, ◌-◌, ◌%◌, ◌^◌, nat_eq, nat_le, nat_lt, min, Bool, true, false, not, ◌&&◌, if◌then◌else◌, Option, Some, None, List, []}
use Rattle.std.specs.Prelude.{◌++◌, length, slice_range, take, drop, reverse}
use Rattle.s360_model.specs.{Core.Core, Core.core_with_bytes, Storage.Storage}
use Rattle.s360_store.specs.{declared.protection.Access.Access, declared.protection.Checked.Checked, Protection.access}
use Rattle.s360_device.specs.declared.device.Begin.{Begin}
use Rattle.s360_channel.specs.{declared.ccw.Ccw.Ccw, Programs.next_ccw}
use Rattle.s360_channel.specs.declared.{csw.ChannelStatus.ChannelStatus, program.Progress.Progress, transfer.Transfer.Transfer, unit_state.UnitState.UnitState}
use Rattle.s360_channel.specs.declared.{csw.UnitStatus.UnitStatus, conclusion.Conclusion.Conclusion, fetching.Fetched.Fetched, program.Program.Program}
use Rattle.s360_channel.specs.Words.{device_has_ended, meets_program_check, meets_protection_check, no_channel_status, no_unit_status, reads_backward}

-- a device as its channel sees it: how it begins a command, the bytes that it gives, and whether it ends it with unit exception
pub record DeviceView : Type 0 where
  pub begin : ℕ → Begin
  pub input : ℕ → List ℕ
  pub exception : ℕ → Bool

-- bytes that go to storage from an address on
pub record Run : Type 0 where
  pub at : ℕ
  pub bytes : List ℕ

-- a command that ends at the device, with the bytes of its output
pub record Ending : Type 0 where
  pub command : ℕ
  pub output : List ℕ

-- what a word does: what is stored, the state of the unit afterwards, and the command that ends at the device, which is as it was where none does
pub record Execution : Type 0 where
  pub stores : Option Run
  pub state : UnitState
  pub ending : Option Ending

-- the core with what is stored
abbrev pub core_with_run : Option Run → Core → Core
core_with_run None m = m
core_with_run (Some r) m = core_with_bytes r.at r.bytes m

-- the command of a word: under chain data that of the record's first word
abbrev pub command_with : Progress → Ccw → ℕ
command_with (Progress.InputChained command moved) c = command
command_with (Progress.OutputChained command gathered) c = command
command_with other c = c.command

-- of the record the words before have moved so many bytes of an input, or gathered these of an output
abbrev pub moved_before : Progress → ℕ
moved_before (Progress.InputChained command moved) = moved
moved_before other = 0

abbrev pub gathered_before : Progress → List ℕ
gathered_before (Progress.OutputChained command gathered) = gathered
gathered_before other = []

-- the word at hand: its program, its address and itself; the command of its record, and the bytes of the record that the words before have moved or gathered;
-- and what the device answers to the command
pub record WordAtHand : Type 0 where
  pub program : Program
  pub at : ℕ
  pub ccw : Ccw
  pub command : ℕ
  pub moved : ℕ
  pub gathered : List ℕ
  pub begin : Begin
  pub input : List ℕ
  pub exception : Bool

abbrev pub word_with : DeviceView → Program → ℕ → Ccw → ℕ → WordAtHand
word_with d p at c command = record {
  program = p;
  at = at;
  ccw = c;
  command = command;
  moved = moved_before p.progress;
  gathered = gathered_before p.progress;
  begin = d.begin command;
  input = d.input command;
  exception = d.exception command;
}

abbrev pub word_at_hand : DeviceView → Program → ℕ → Ccw → WordAtHand
word_at_hand d p at c = word_with d p at c (command_with p.progress c)

-- the address of the next word: addresses are of 24 bits, and wrap
abbrev pub next_ccw_address : ℕ → ℕ
next_ccw_address at = (at + 8) % 2 ^ 24

-- the program goes on with the word after the one at an address
abbrev pub goes_on_after : Program → ℕ → Progress → UnitState
goes_on_after p at progress = UnitState.Active (record { key = p.key; address = next_ccw_address at; progress = progress })

-- the program has ended with the word at an address, and its status word waits
abbrev pub ends_with : Program → ℕ → Conclusion → UnitState
ends_with p at e = UnitState.Waiting (record { key = p.key; address = next_ccw_address at; unit = e.unit; channel = e.channel; count = e.residual })

-- a channel check ends the program: it moves no byte, leaves the device as it was, and has residual count 0 (own profile)
abbrev pub after_check : Program → ℕ → ChannelStatus → Execution
after_check p at status =
    let state : UnitState = ends_with p at (record { unit = no_unit_status; channel = status; residual = 0 })
    in record { stores = None; state = state; ending = None }

-- where bytes move, one outside storage is a program check, and else a protected one a protection check
abbrev pub unless_checked : WordAtHand → Checked → Execution → Execution
unless_checked w Checked.Clear e = e
unless_checked w Checked.Addressing e = after_check w.program w.at meets_program_check
unless_checked w Checked.Protection e = after_check w.program w.at meets_protection_check

-- after channel end and device end alone, and no incorrect length, another command follows where commands, and not data, are chained; else the status waits
abbrev pub is_clean : Conclusion → Bool
is_clean e = not e.unit.unit_check && (not e.unit.unit_exception && not e.channel.incorrect_length)

abbrev pub after_conclusion : WordAtHand → Conclusion → UnitState
after_conclusion w e =
    if w.ccw.flags.chain_command && (not w.ccw.flags.chain_data && is_clean e) then goes_on_after w.program w.at Progress.CommandChained
    else ends_with w.program w.at e

abbrev pub command_ends : WordAtHand → Conclusion → List ℕ → Execution
command_ends w e output = record { stores = None; state = after_conclusion w e; ending = Some (record { command = w.command; output = output }) }

-- the device refuses it: unit check alone
abbrev pub refused_unit : UnitStatus
refused_unit = record no_unit_status { unit_check = true }

-- the device has ended it: channel end and device end, with unit exception where the device says so
abbrev pub ended_unit : Bool → UnitStatus
ended_unit exception = record device_has_ended { unit_exception = exception }

-- a word moves of the n bytes that are left as many as its count, at most. Where data are chained and n is no less than the count, the record goes on with the
-- next word. Else the command ends, and what is left of the count is the residual count. A wrong length is told, but where suppress length indication is one
-- and data are not chained
abbrev pub transfer_with : Ccw → ℕ → Bool → Transfer
transfer_with c n wrong = record {
  count = min n c.count;
  goes_on = c.flags.chain_data && nat_le c.count n;
  residual = c.count - min n c.count;
  incorrect_length = wrong && not (c.flags.suppress_length && not c.flags.chain_data);
}

-- the length of an input is wrong where n differs from the count, that of an output where the count exceeds n (own profile)
abbrev pub input_transfer : Ccw → ℕ → Transfer
input_transfer c n = transfer_with c n (not (nat_eq n c.count))

abbrev pub output_transfer : Ccw → ℕ → Transfer
output_transfer c n = transfer_with c n (nat_lt n c.count)

-- the record goes on after a transfer, or the command ends with these bytes of output
abbrev pub conclusion_of : WordAtHand → Transfer → Conclusion
conclusion_of w t =
    let channel : ChannelStatus = record no_channel_status { incorrect_length = t.incorrect_length }
    in record { unit = ended_unit w.exception; channel = channel; residual = t.residual }

abbrev pub after_transfer : WordAtHand → Transfer → Progress → List ℕ → Execution
after_transfer w t progress output =
    if t.goes_on then record { stores = None; state = goes_on_after w.program w.at progress; ending = None }
    else command_ends w (conclusion_of w t) output

-- the lowest address of so many bytes, which rise from the data address, or fall from it; none where they fall below address 0
abbrev pub lowest_address : Bool → ℕ → ℕ → Option ℕ
lowest_address false address count = Some address
lowest_address true address count = if nat_lt address (count - 1) then None else Some (address - (count - 1))

-- what so many bytes meet, from their lowest address on: where there are none, nothing
abbrev pub access_of : Storage → ℕ → Access → ℕ → Option ℕ → Checked
access_of s key kind count None = Checked.Addressing
access_of s key kind count (Some at) = if nat_eq count 0 then Checked.Clear else access s at count kind key

-- an input's bytes in the order of their addresses, and the run of them, if there are any
abbrev pub in_order : Bool → List ℕ → List ℕ
in_order backward bytes = if backward then reverse bytes else bytes

abbrev pub run_of : Option ℕ → List ℕ → Option Run
run_of None bytes = None
run_of (Some at) bytes = if nat_eq (length bytes) 0 then None else Some (record { at = at; bytes = bytes })

abbrev pub storing : Storage → WordAtHand → List ℕ → Execution → Execution
storing s w bytes e =
    let lowest : Option ℕ = lowest_address (reads_backward w.command) w.ccw.address (length bytes)
    in unless_checked w (access_of s w.program.key Access.Store (length bytes) lowest) (record e { stores = run_of lowest bytes })

-- input: n is the record less the bytes moved before; the word stores what it moves, but nothing where skip is one
abbrev pub stored_bytes : WordAtHand → ℕ → List ℕ
stored_bytes w count = if w.ccw.flags.skip then [] else in_order (reads_backward w.command) (take count (drop w.moved w.input))

abbrev pub after_input : WordAtHand → Transfer → Execution
after_input w t = after_transfer w t (Progress.InputChained w.command (w.moved + t.count)) []

abbrev pub execute_input : Storage → WordAtHand → ℕ → Execution
execute_input s w total =
    let t : Transfer = input_transfer w.ccw (total - w.moved)
    in storing s w (stored_bytes w t.count) (after_input w t)

-- output: n is the limit less the bytes gathered before; the word gathers what it fetches, whatever skip is, and the device takes no more than its limit
abbrev pub after_output : WordAtHand → Transfer → List ℕ → Execution
after_output w t output = after_transfer w t (Progress.OutputChained w.command output) output

abbrev pub execute_output : Storage → WordAtHand → ℕ → Execution
execute_output s w limit =
    let t : Transfer = output_transfer w.ccw (limit - length w.gathered)
    in let fetched : List ℕ = slice_range s.bytes w.ccw.address (w.ccw.address + t.count)
    in unless_checked w (access_of s w.program.key Access.Fetch t.count (Some w.ccw.address)) (after_output w t (take limit (w.gathered ++ fetched)))

-- control, and a command that is refused: nothing moves, and the count is left
abbrev pub moves_nothing : WordAtHand → UnitStatus → Execution
moves_nothing w unit = command_ends w (record { unit = unit; channel = no_channel_status; residual = w.ccw.count }) []

-- by how the device begins the command: where it cannot begin it yet, nothing happens
abbrev pub execute_begun : Storage → WordAtHand → Begin → Execution
execute_begun s w (Begin.Input total) = execute_input s w total
execute_begun s w (Begin.Output limit) = execute_output s w limit
execute_begun s w Begin.Control = moves_nothing w (ended_unit w.exception)
execute_begun s w (Begin.Refused sense) = moves_nothing w refused_unit
execute_begun s w Begin.NotYet = record { stores = None; state = UnitState.Active w.program; ending = None }

abbrev pub execute_fetched : DeviceView → Storage → Program → Fetched → Execution
execute_fetched d s p (Fetched.Broken last) = after_check p last meets_program_check
execute_fetched d s p (Fetched.Whole at c) = execute_begun s (word_at_hand d p at c) (d.begin (command_with p.progress c))

-- one channel event of a unit that executes a program
unfoldable pub channel_execution : DeviceView → Storage → Program → Execution
channel_execution d s p = execute_fetched d s p (next_ccw s p)
