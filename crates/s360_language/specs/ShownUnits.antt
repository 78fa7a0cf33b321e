-- What is shown of what the channel does for a unit, and of its device (own profile).
use Rattle.std.specs.Prelude.{ℕ, ◌+◌, ◌*◌, ◌/◌, ◌%◌, ◌^◌, Bool, if◌then◌else◌, List, [], ◌++◌, codes, length, slice_index}
use Rattle.s360_model.specs.Text.{hex_bytes, hex_text}
use Rattle.s360_text.specs.Counts.{counted}
use Rattle.s360_device.specs.Punch.{Punch}
use Rattle.s360_device.specs.Reader.{Reader}
use Rattle.s360_print.specs.Console.{Console}
use Rattle.s360_print.specs.Printer.{Printer}
use Rattle.s360_tape.specs.Tape.{Tape}
use Rattle.s360_channel.specs.declared.program.Program.{Program}
use Rattle.s360_channel.specs.declared.unit_state.UnitState.{UnitState}
use Rattle.s360_channel.specs.declared.unit_state.UnitState.TheVariants.{Idle, Active, Waiting}
use Rattle.s360_channel.specs.Words.{csw_doubleword}
use Rattle.s360_channel.specs.declared.configured_unit.ConfiguredUnit.{ConfiguredUnit}
use Rattle.s360_machine.specs.Machine.{Machine}

-- of a program its key, zeros and the address of its next channel command word, as a channel address word has them
abbrev pub program_word : Program → ℕ
program_word p = p.key * 2 ^ 28 + p.address % 2 ^ 24

-- the two words of a channel status word that waits
unfoldable pub csw_words : ℕ → List ℕ
csw_words doubleword = (codes " waiting " ++ hex_text 8 (doubleword / 2 ^ 32)) ++ (codes " " ++ hex_text 8 (doubleword % 2 ^ 32))

abbrev pub state_name : UnitState → List ℕ
state_name Idle = codes " idle"
state_name (Active p) = codes " active " ++ hex_text 8 (program_word p)
state_name (Waiting csw) = csw_words (csw_doubleword csw)

abbrev pub attention_name : Bool → List ℕ
attention_name attention = if attention then codes " attention" else []

-- what the channel does for a unit, and whether the unit asks for attention
abbrev pub control_words : UnitState → Bool → List ℕ
control_words state attention = state_name state ++ attention_name attention

-- the first sense byte, which is all that the devices of channel 0 have
abbrev pub sense_text : List ℕ → List ℕ
sense_text sense = codes " sense " ++ hex_text 2 (slice_index sense 0)

abbrev pub pressed_text : Bool → List ℕ
pressed_text pressed = if pressed then codes " eof on" else codes " eof off"

-- the cards that were fed, of all, and the end-of-file key
abbrev pub reader_words : Reader → List ℕ
reader_words r =
    sense_text r.sense ++ counted (codes " next ") (length r.media.stackers) ++ counted (codes " of ") (length r.media.cards)
    ++ pressed_text r.media.end_of_file

-- the cards that were punched
abbrev pub punch_words : Punch → List ℕ
punch_words p = sense_text p.sense ++ counted (codes " cards ") (length p.media)

-- where the carriage stands, and the lines that were printed
abbrev pub printer_words : Printer → List ℕ
printer_words p =
    sense_text p.sense ++ counted (codes " page ") p.media.position.page ++ counted (codes " line ") p.media.position.line
    ++ counted (codes " records ") (length p.media.records)

-- the items that were typed, the lines that were entered, and how many of these were taken
abbrev pub console_words : Console → List ℕ
console_words c =
    sense_text c.sense ++ counted (codes " typed ") (length c.media.typed) ++ counted (codes " entered ") (length c.media.entered)
    ++ counted (codes " taken ") c.media.taken

-- the sense bytes, the position among the blocks and marks, and whether the tape is loaded
abbrev pub loaded_text : Bool → List ℕ
loaded_text unloaded = if unloaded then codes " unloaded" else codes " loaded"

abbrev pub tape_words : Tape → List ℕ
tape_words t =
    codes " sense " ++ hex_bytes t.sense ++ counted (codes " position ") t.media.position ++ counted (codes " of ") (length t.media.items)
    ++ loaded_text t.media.unloaded

-- a unit's device
abbrev pub device_words : Machine → ConfiguredUnit → List ℕ
device_words m ConfiguredUnit.Reader = reader_words m.media.reader
device_words m ConfiguredUnit.Punch = punch_words m.media.punch
device_words m ConfiguredUnit.Printer = printer_words m.media.printer
device_words m ConfiguredUnit.Console = console_words m.media.console
device_words m ConfiguredUnit.Tape0 = tape_words m.media.tape0
device_words m ConfiguredUnit.Tape1 = tape_words m.media.tape1
