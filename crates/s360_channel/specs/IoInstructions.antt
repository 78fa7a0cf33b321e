-- The input/output instructions (GA22-6821, "Input/Output Operations", START I/O, TEST I/O, HALT I/O and TEST CHANNEL): the condition code, what is stored of
-- the channel status word, and which unit becomes what. Of each instruction the first case that holds; their order is the own profile.
use Rattle.std.specs.Prelude.{ℕ, Bool, true, false, not, ◌&&◌, ◌||◌, nat_eq, if◌then◌else◌, unwrap_or, Option, Some, None}
use Rattle.std.specs.Option.{option_map_or}
use Rattle.s360_model.specs.Storage.{Storage, word_at}
use Rattle.s360_word.specs.declared.unit.Unit.{Unit as UnitAddress}
use Rattle.s360_channel.specs.declared.{caw.Caw.Caw, ccw.Ccw.Ccw, fetching.Fetched.Fetched, configured_unit.ChannelKind.ChannelKind}
use Rattle.s360_channel.specs.declared.csw.{Csw.Csw, UnitStatus.UnitStatus, ChannelStatus.ChannelStatus}
use Rattle.s360_channel.specs.declared.{configured_unit.ConfiguredUnit.ConfiguredUnit, program.Program.Program, unit_state.UnitState.UnitState}
use Rattle.s360_channel.specs.declared.io_instructions.CswStore.TheVariants.{Nothing, Status, Csw as whole}
use Rattle.s360_channel.specs.declared.io_instructions.{IoResult.IoResult, UnitAfter.UnitAfter}
use Rattle.s360_channel.specs.declared.unit_control.{Condition.Condition, UnitControl.UnitControl}
use Rattle.s360_channel.specs.ConfiguredUnits.{Units, active_beside, control_of, is_occupied, kind_of, unit_at, with_control_of}
use Rattle.s360_channel.specs.{Programs.next_ccw, Programs.program_at, Units.condition_of, Units.idle_unit, Units.is_active, Units.is_waiting, Units.program_of}
use Rattle.s360_channel.specs.Words.{asks_attention, caw_of, device_has_ended, is_whole_caw, meets_program_check, no_channel_status, no_unit_status}

abbrev pub caw_location : ℕ
caw_location = 72

abbrev pub csw_location : ℕ
csw_location = 64

-- a condition code alone
abbrev pub with_code : ℕ → IoResult
with_code code = record { condition = code; stores = Nothing; unit = None }

-- a unit, or a channel, that is not there
abbrev pub not_operational : IoResult
not_operational = with_code 3

-- an instruction of a unit, by its address
abbrev pub at_unit : (ConfiguredUnit → IoResult) → UnitAddress → IoResult
at_unit result address = option_map_or result (unit_at address.0) not_operational

-- condition code 1, with bits 32 to 47 of the channel status word stored
abbrev pub with_status : UnitStatus → ChannelStatus → Option UnitAfter → IoResult
with_status unit channel next = record { condition = 1; stores = Status unit channel; unit = next }

-- the unit stands so then
abbrev pub becomes : ConfiguredUnit → UnitControl → Option UnitAfter
becomes u control = Some (record { unit = u; control = control })

-- the word would be executed at once: no-operation that is not chained to another
abbrev pub is_immediate : Ccw → Bool
is_immediate c = nat_eq c.command 0x03 && (not c.flags.chain_data && not c.flags.chain_command)

-- START I/O of a unit that is available: the program is checked as far as its first word
abbrev pub started : ConfiguredUnit → Program → Fetched → IoResult
started u p (Fetched.Broken last) = with_status no_unit_status meets_program_check None
started u p (Fetched.Whole last c) =
    if is_immediate c then with_status device_has_ended no_channel_status None
    else record { condition = 0; stores = Nothing; unit = becomes u (record { state = UnitState.Active p; attention = false }) }

-- START I/O of it with the program that this channel address word leads to
abbrev pub start_with : Storage → ConfiguredUnit → Caw → IoResult
start_with s u caw =
    if is_whole_caw caw then started u (program_at caw.key caw.address) (next_ccw s (program_at caw.key caw.address))
    else with_status no_unit_status meets_program_check None

-- START I/O of a unit, where another program of its channel may be executed that runs one at a time: of an idle one attention comes before the program
abbrev pub start_unit : Storage → Bool → ConfiguredUnit → UnitControl → IoResult
start_unit s occupied u control =
    if is_active control.state || (is_waiting control.state || occupied) then with_code 2
    else if control.attention then with_status (record asks_attention { busy = true }) no_channel_status (becomes u idle_unit)
    else start_with s u (caw_of (word_at s.bytes caw_location))

abbrev pub start_io : Storage → Units → UnitAddress → IoResult
start_io s us = at_unit (λ u. start_unit s (is_occupied us u) u (control_of us u))

-- TEST I/O of it: its condition is taken, if it has one, and its status word stored whole
abbrev pub test_unit : Bool → ConfiguredUnit → UnitControl → IoResult
test_unit occupied u control =
    let taken : Condition → IoResult = λ c. record { condition = 1; stores = whole c.csw; unit = becomes u c.unit }
    in if is_active control.state || occupied then with_code 2 else option_map_or taken (condition_of control) (with_code 0)

abbrev pub test_io : Units → UnitAddress → IoResult
test_io us = at_unit (λ u. test_unit (is_occupied us u) u (control_of us u))

-- a program that is halted: its status word waits, with the address of the word that would have come next, and device and media as they are (own profile)
abbrev pub csw_of_halted : Program → Csw
csw_of_halted p = record { key = p.key; address = p.address; unit = device_has_ended; channel = no_channel_status; count = 0 }

-- HALT I/O of the unit whose program occupies the channel: the multiplexer channel stores a status of zeros with condition code 1, the selector ends with 2
abbrev pub result_of_halt : ChannelKind → Option UnitAfter → IoResult
result_of_halt ChannelKind.Multiplexer next = with_status no_unit_status no_channel_status next
result_of_halt ChannelKind.Selector next = record { condition = 2; stores = Nothing; unit = next }

abbrev pub halt_unit : ConfiguredUnit → UnitControl → IoResult
halt_unit u control =
    let halted = λ (p : Program). result_of_halt (kind_of u) (becomes u (record control { state = UnitState.Waiting (csw_of_halted p) }))
    in option_map_or halted (program_of control.state) (with_code 0)

-- the unit whose program HALT I/O ends: itself where it is active, or else the other tape where that one is
abbrev pub halted_unit : Units → ConfiguredUnit → ConfiguredUnit
halted_unit us u = if is_active (control_of us u).state then u else unwrap_or (active_beside us u) u

abbrev pub halt_io : Units → UnitAddress → IoResult
halt_io us = at_unit (λ u. halt_unit (halted_unit us u) (control_of us (halted_unit us u)))

-- TEST CHANNEL by the number of the channel: the multiplexer channel 0 is available; the selector channel 1 is occupied by a program, or a status word of one
-- of its units waits, or it is available; others are not there
abbrev pub has_tape : (UnitState → Bool) → Units → Bool
has_tape test us = test (control_of us ConfiguredUnit.Tape0).state || test (control_of us ConfiguredUnit.Tape1).state

abbrev pub test_channel : Units → ℕ → IoResult
test_channel us channel =
    if nat_eq channel 0 then with_code 0
    else if nat_eq channel 1 then with_code (if has_tape is_active us then 2 else (if has_tape is_waiting us then 1 else 0))
    else not_operational

-- the units after it
abbrev pub units_after_io : Units → Option UnitAfter → Units
units_after_io us None = us
units_after_io us (Some x) = with_control_of us x.unit x.control
