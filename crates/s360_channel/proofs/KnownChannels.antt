-- Channel events and input/output instructions worked by hand, which the definitions have to give. The first channel
-- command word stands at address 0 of a storage of 48 bytes, and its data from address 24 on.
use Rattle.std.specs.Prelude.{◌≡◌, ℕ, ◌-◌, Bool, true, false, Option, Some, None, List, [], ◌∷◌, ◌++◌, length, replicate, refl}
use Rattle.s360_model.specs.Storage.{Storage}
use Rattle.s360_device.specs.declared.device.Begin.{Begin}
use Rattle.s360_device.specs.declared.device.Begin.TheVariants.{Input, Output, Control, NotYet, Refused}
use Rattle.s360_channel.specs.declared.configured_unit.ConfiguredUnit.TheVariants.{Reader}
use Rattle.s360_channel.specs.declared.io_instructions.CswStore.TheVariants.{Nothing, Status, Csw as whole}
use Rattle.s360_channel.specs.declared.program.Progress.{Progress}
use Rattle.s360_channel.specs.declared.program.Progress.TheVariants.{First, CommandChained, InputChained, OutputChained}
use Rattle.s360_channel.specs.declared.unit_control.UnitControl.{UnitControl}
use Rattle.s360_channel.specs.declared.unit_state.UnitState.{UnitState}
use Rattle.s360_channel.specs.declared.unit_state.UnitState.TheVariants.{Idle, Active, Waiting}
use Rattle.s360_channel.specs.Words.{csw_doubleword, device_has_ended, meets_program_check, no_channel_status, no_unit_status}
use Rattle.s360_channel.specs.Programs.{program_at}
use Rattle.s360_channel.specs.IoInstructions.{becomes, halt_unit, start_unit, test_unit}
use Rattle.s360_channel.specs.Execution.{DeviceView, Execution, channel_execution}

-- a device that begins each command so, gives these bytes, and gives unit exception or not
abbrev device : Begin → List ℕ → Bool → DeviceView
device begin input exception = record { begin = λ command. begin; input = λ command. input; exception = λ command. exception }

-- a reader with one card of four columns, and a punch of such cards
abbrev reader : DeviceView
reader = device (Input 4) (0xC1 ∷ 0xC2 ∷ 0xC3 ∷ 0xC4 ∷ []) false

abbrev punch : DeviceView
punch = device (Output 4) [] false

-- a storage that begins with these bytes, and has this key
abbrev storage : ℕ → List ℕ → Storage
storage key bytes = record { bytes = bytes ++ replicate (48 - length bytes) 0; keys = key ∷ []; fetch_protection = false }

-- the channel status word that waits
abbrev csw_of : Execution → Option ℕ
csw_of e = of_state e.state where
  of_state : UnitState → Option ℕ
  of_state (Waiting csw) = Some (csw_doubleword csw)
  of_state other = None

-- the program goes on at an address
abbrev goes_on : ℕ → Progress → UnitState
goes_on address progress = Active (record { key = 0; address = address; progress = progress })

-- an event of the device with these bytes at the head of storage, with a program of key 0 at an address
abbrev event : DeviceView → ℕ → Progress → List ℕ → Execution
event d address progress bytes = channel_execution d (storage 0 bytes) (record { key = 0; address = address; progress = progress })

-- a card of as many columns as the count: all of it is stored, and nothing is told
abbrev read_4 : List ℕ
read_4 = 0x02 ∷ 0 ∷ 0 ∷ 24 ∷ 0 ∷ 0 ∷ 0 ∷ 4 ∷ []

pub card_is_stored : (event reader 0 First read_4).stores ≡ Some (record { at = 24; bytes = 0xC1 ∷ 0xC2 ∷ 0xC3 ∷ 0xC4 ∷ [] })
unfolding channel_execution
card_is_stored = refl

pub card_ends : csw_of (event reader 0 First read_4) ≡ Some 0x0000_0008_0C00_0000
unfolding channel_execution
card_ends = refl

pub card_ends_the_command : (event reader 0 First read_4).ending ≡ Some (record { command = 2; output = [] })
unfolding channel_execution
card_ends_the_command = refl

-- a count below it: incorrect length, and nothing is left of the count; a count above it: the rest is left, also
-- where the length is suppressed
pub count_is_short : csw_of (event reader 0 First (0x02 ∷ 0 ∷ 0 ∷ 24 ∷ 0 ∷ 0 ∷ 0 ∷ 1 ∷ [])) ≡ Some 0x0000_0008_0C40_0000
unfolding channel_execution
count_is_short = refl

pub count_is_long : csw_of (event reader 0 First (0x02 ∷ 0 ∷ 0 ∷ 24 ∷ 0 ∷ 0 ∷ 0 ∷ 24 ∷ [])) ≡ Some 0x0000_0008_0C40_0014
unfolding channel_execution
count_is_long = refl

pub length_is_suppressed : csw_of (event reader 0 First (0x02 ∷ 0 ∷ 0 ∷ 24 ∷ 0x20 ∷ 0 ∷ 0 ∷ 24 ∷ [])) ≡ Some 0x0000_0008_0C00_0014
unfolding channel_execution
length_is_suppressed = refl

-- a card in two words: the first leaves the record with one byte moved, whatever the command of the second
abbrev two_words : List ℕ
two_words = 0x02 ∷ 0 ∷ 0 ∷ 24 ∷ 0x80 ∷ 0 ∷ 0 ∷ 1 ∷ 0 ∷ 0 ∷ 0 ∷ 32 ∷ 0 ∷ 0 ∷ 0 ∷ 3 ∷ []

pub record_goes_on : event reader 0 First two_words ≡ record { stores = Some (record { at = 24; bytes = 0xC1 ∷ [] }); state = goes_on 8 (InputChained 2 1); ending = None }
unfolding channel_execution
record_goes_on = refl

pub record_ends : (event reader 8 (InputChained 2 1) two_words).stores ≡ Some (record { at = 32; bytes = 0xC2 ∷ 0xC3 ∷ 0xC4 ∷ [] })
unfolding channel_execution
record_ends = refl

pub record_ends_with_its_last_word : csw_of (event reader 8 (InputChained 2 1) two_words) ≡ Some 0x0000_0010_0C00_0000
unfolding channel_execution
record_ends_with_its_last_word = refl

-- nothing of a record under chain data: an incorrect length, which is not suppressed
pub no_byte_under_chain_data : csw_of (event (device (Input 0) [] false) 0 First (0x02 ∷ 0 ∷ 0 ∷ 24 ∷ 0xA0 ∷ 0 ∷ 0 ∷ 4 ∷ [])) ≡ Some 0x0000_0008_0C40_0004
unfolding channel_execution
no_byte_under_chain_data = refl

-- read backward: the first byte goes to the data address, and the others below it
pub backward : (event reader 0 First (0x0C ∷ 0 ∷ 0 ∷ 24 ∷ 0 ∷ 0 ∷ 0 ∷ 4 ∷ [])).stores ≡ Some (record { at = 21; bytes = 0xC4 ∷ 0xC3 ∷ 0xC2 ∷ 0xC1 ∷ [] })
unfolding channel_execution
backward = refl

-- as far as address 0, and no further
pub backward_to_0 : (event reader 0 First (0x0C ∷ 0 ∷ 0 ∷ 3 ∷ 0 ∷ 0 ∷ 0 ∷ 4 ∷ [])).stores ≡ Some (record { at = 0; bytes = 0xC4 ∷ 0xC3 ∷ 0xC2 ∷ 0xC1 ∷ [] })
unfolding channel_execution
backward_to_0 = refl

pub backward_below_0 : csw_of (event reader 0 First (0x0C ∷ 0 ∷ 0 ∷ 2 ∷ 0 ∷ 0 ∷ 0 ∷ 4 ∷ [])) ≡ Some 0x0000_0008_0020_0000
unfolding channel_execution
backward_below_0 = refl

-- skip stores nothing, and looks at no address
pub skip_stores_nothing : event reader 0 First (0x02 ∷ 0xFF ∷ 0 ∷ 0 ∷ 0x10 ∷ 0 ∷ 0 ∷ 4 ∷ []) ≡ record { stores = None; state = Waiting (record { key = 0; address = 8; unit = device_has_ended; channel = no_channel_status; count = 0 }); ending = Some (record { command = 2; output = [] }) }
unfolding channel_execution
skip_stores_nothing = refl

-- output: a count below what the device takes is told by nothing, and one above it by an incorrect length
abbrev punch_3 : List ℕ
punch_3 = 0x41 ∷ 0 ∷ 0 ∷ 8 ∷ 0 ∷ 0 ∷ 0 ∷ 3 ∷ 0xF1 ∷ 0xF2 ∷ 0xF3 ∷ []

pub output_gives_its_bytes : (event punch 0 First punch_3).ending ≡ Some (record { command = 0x41; output = 0xF1 ∷ 0xF2 ∷ 0xF3 ∷ [] })
unfolding channel_execution
output_gives_its_bytes = refl

pub output_ends : csw_of (event punch 0 First punch_3) ≡ Some 0x0000_0008_0C00_0000
unfolding channel_execution
output_ends = refl

pub output_is_too_long : csw_of (event punch 0 First (0x41 ∷ 0 ∷ 0 ∷ 8 ∷ 0 ∷ 0 ∷ 0 ∷ 5 ∷ [])) ≡ Some 0x0000_0008_0C40_0001
unfolding channel_execution
output_is_too_long = refl

-- an output that goes on keeps its bytes for its end
pub output_goes_on : event punch 0 First (0x41 ∷ 0 ∷ 0 ∷ 8 ∷ 0x80 ∷ 0 ∷ 0 ∷ 2 ∷ 0xF1 ∷ 0xF2 ∷ []) ≡ record { stores = None; state = goes_on 8 (OutputChained 0x41 (0xF1 ∷ 0xF2 ∷ [])); ending = None }
unfolding channel_execution
output_goes_on = refl

pub output_is_gathered : (event punch 0 (OutputChained 0x41 (0xF1 ∷ 0xF2 ∷ [])) (0 ∷ 0 ∷ 0 ∷ 8 ∷ 0 ∷ 0 ∷ 0 ∷ 1 ∷ 0xF3 ∷ [])).ending ≡ Some (record { command = 0x41; output = 0xF1 ∷ 0xF2 ∷ 0xF3 ∷ [] })
unfolding channel_execution
output_is_gathered = refl

-- a block with another key: a protection check, and the device is as it was; a byte outside comes before it
pub block_is_protected : channel_execution reader (storage 2 read_4) (program_at 1 0) ≡ record { stores = None; state = Waiting (record { key = 1; address = 8; unit = no_unit_status; channel = record no_channel_status { protection_check = true }; count = 0 }); ending = None }
unfolding channel_execution
block_is_protected = refl

pub byte_is_outside : csw_of (channel_execution reader (storage 2 (0x02 ∷ 0 ∷ 0 ∷ 45 ∷ 0 ∷ 0 ∷ 0 ∷ 4 ∷ [])) (program_at 1 0)) ≡ Some 0x1000_0008_0020_0000
unfolding channel_execution
byte_is_outside = refl

-- where fewer bytes move than the count, those alone are looked at
pub byte_outside_does_not_move : csw_of (event reader 0 First (0x02 ∷ 0 ∷ 0 ∷ 44 ∷ 0 ∷ 0 ∷ 0 ∷ 5 ∷ [])) ≡ Some 0x0000_0008_0C40_0001
unfolding channel_execution
byte_outside_does_not_move = refl

-- a refused command: unit check alone, and the count is left, also where commands are chained
pub command_is_refused : csw_of (event (device (Refused (0x40 ∷ 0 ∷ 0 ∷ 0 ∷ 0 ∷ 0 ∷ [])) [] false) 0 First (0x02 ∷ 0 ∷ 0 ∷ 24 ∷ 0x40 ∷ 0 ∷ 0 ∷ 4 ∷ [])) ≡ Some 0x0000_0008_0200_0004
unfolding channel_execution
command_is_refused = refl

-- no card, and the end-of-file key was pressed: unit exception, and no other command follows
pub end_of_file : csw_of (event (device (Input 0) [] true) 0 First (0x02 ∷ 0 ∷ 0 ∷ 24 ∷ 0x60 ∷ 0 ∷ 0 ∷ 4 ∷ [])) ≡ Some 0x0000_0008_0D00_0004
unfolding channel_execution
end_of_file = refl

-- a control moves nothing, the count is left, and chain data keeps another command from following it
pub control_ends : csw_of (event (device Control [] false) 0 First (0x03 ∷ 0 ∷ 0 ∷ 0 ∷ 0xC0 ∷ 0 ∷ 0 ∷ 1 ∷ [])) ≡ Some 0x0000_0008_0C00_0001
unfolding channel_execution
control_ends = refl

-- no operation, chained to a transfer in channel that leads to another: a program check at the second
abbrev two_transfers : List ℕ
two_transfers = 0x03 ∷ 0 ∷ 0 ∷ 0 ∷ 0x40 ∷ 0 ∷ 0 ∷ 1 ∷ 0x08 ∷ 0 ∷ 0 ∷ 16 ∷ 0 ∷ 0 ∷ 0 ∷ 0 ∷ 0x08 ∷ 0 ∷ 0 ∷ 0 ∷ 0 ∷ 0 ∷ 0 ∷ 0 ∷ []

pub command_is_chained : event (device Control [] false) 0 First two_transfers ≡ record { stores = None; state = goes_on 8 CommandChained; ending = Some (record { command = 3; output = [] }) }
unfolding channel_execution
command_is_chained = refl

pub transfer_leads_to_transfer : csw_of (event (device Control [] false) 8 CommandChained two_transfers) ≡ Some 0x0000_0018_0020_0000
unfolding channel_execution
transfer_leads_to_transfer = refl

-- one that leads back, whatever its other bits: the event executes the word there
pub transfer_leads_back : (event (device Control [] false) 8 CommandChained (0x03 ∷ 0 ∷ 0 ∷ 0 ∷ 0x40 ∷ 0 ∷ 0 ∷ 1 ∷ 0xF8 ∷ 0 ∷ 0 ∷ 0 ∷ 0x07 ∷ 0 ∷ 0 ∷ 0 ∷ [])).state ≡ goes_on 8 CommandChained
unfolding channel_execution
transfer_leads_back = refl

-- one that leads outside storage is the last word itself
pub transfer_leads_outside : csw_of (event (device Control [] false) 8 CommandChained (0x03 ∷ 0 ∷ 0 ∷ 0 ∷ 0x40 ∷ 0 ∷ 0 ∷ 1 ∷ 0x08 ∷ 0x01 ∷ 0 ∷ 0 ∷ 0 ∷ 0 ∷ 0 ∷ 0 ∷ [])) ≡ Some 0x0000_0010_0020_0000
unfolding channel_execution
transfer_leads_outside = refl

-- a word outside storage is the last one
pub word_is_outside : csw_of (event (device Control [] false) 48 CommandChained []) ≡ Some 0x0000_0038_0020_0000
unfolding channel_execution
word_is_outside = refl

-- what keeps a word from being executed: a transfer first, bits 37 to 39, no count, no command
pub transfer_is_first : csw_of (event reader 0 First (0x08 ∷ [])) ≡ Some 0x0000_0008_0020_0000
unfolding channel_execution
transfer_is_first = refl

pub bits_are_not_zero : csw_of (event reader 0 First (0x02 ∷ 0 ∷ 0 ∷ 24 ∷ 0x01 ∷ 0 ∷ 0 ∷ 4 ∷ [])) ≡ Some 0x0000_0008_0020_0000
unfolding channel_execution
bits_are_not_zero = refl

pub count_is_zero : csw_of (event reader 0 First (0x02 ∷ 0 ∷ 0 ∷ 24 ∷ 0 ∷ 0 ∷ 0 ∷ 0 ∷ [])) ≡ Some 0x0000_0008_0020_0000
unfolding channel_execution
count_is_zero = refl

pub command_is_zero : csw_of (event reader 0 First (0x10 ∷ 0 ∷ 0 ∷ 24 ∷ 0 ∷ 0 ∷ 0 ∷ 4 ∷ [])) ≡ Some 0x0000_0008_0020_0000
unfolding channel_execution
command_is_zero = refl

-- a device with no answer yet, also where the data address is outside; but a word that is broken is one at once
pub no_answer_yet : event (device NotYet [] false) 0 First (0x0A ∷ 0xFF ∷ 0 ∷ 0 ∷ 0 ∷ 0 ∷ 0 ∷ 80 ∷ []) ≡ record { stores = None; state = goes_on 0 First; ending = None }
unfolding channel_execution
no_answer_yet = refl

pub broken_before_the_answer : csw_of (event (device NotYet [] false) 0 First (0x0A ∷ 0 ∷ 0 ∷ 24 ∷ 0 ∷ 0 ∷ 0 ∷ 0 ∷ [])) ≡ Some 0x0000_0008_0020_0000
unfolding channel_execution
broken_before_the_answer = refl

-- START I/O of an idle unit with the channel address word zero and this word at 0
abbrev started : List ℕ → Storage
started word = record { bytes = word ++ replicate (80 - length word) 0; keys = 0 ∷ []; fetch_protection = false }

abbrev idle : UnitControl
idle = record { state = Idle; attention = false }

pub no_operation_is_immediate : start_unit (started (0x03 ∷ 0 ∷ 0 ∷ 0 ∷ 0 ∷ 0 ∷ 0 ∷ 1 ∷ [])) false Reader idle ≡ record { condition = 1; stores = Status device_has_ended no_channel_status; unit = None }
no_operation_is_immediate = refl

pub chained_no_operation_starts : start_unit (started (0x03 ∷ 0 ∷ 0 ∷ 0 ∷ 0x40 ∷ 0 ∷ 0 ∷ 1 ∷ [])) false Reader idle ≡ record { condition = 0; stores = Nothing; unit = becomes Reader (record { state = goes_on 0 First; attention = false }) }
chained_no_operation_starts = refl

pub broken_program_does_not_start : start_unit (started (0x08 ∷ [])) false Reader idle ≡ record { condition = 1; stores = Status no_unit_status meets_program_check; unit = None }
broken_program_does_not_start = refl

-- a program that waits for its first event is halted: a status of zeros, and the address of its first word waits
pub halted_program_waits : halt_unit Reader (record { state = Active (program_at 0 0x400); attention = false }) ≡ record { condition = 1; stores = Status no_unit_status no_channel_status; unit = becomes Reader (record { state = Waiting (record { key = 0; address = 0x400; unit = device_has_ended; channel = no_channel_status; count = 0 }); attention = false }) }
halted_program_waits = refl

-- TEST I/O takes the status word that waits, and then finds the unit available
pub status_word_is_taken : test_unit false Reader (record { state = Waiting (record { key = 0; address = 0x408; unit = device_has_ended; channel = no_channel_status; count = 0 }); attention = false }) ≡ record { condition = 1; stores = whole (record { key = 0; address = 0x408; unit = device_has_ended; channel = no_channel_status; count = 0 }); unit = becomes Reader idle }
status_word_is_taken = refl

pub unit_is_available : test_unit false Reader idle ≡ record { condition = 0; stores = Nothing; unit = None }
unit_is_available = refl
