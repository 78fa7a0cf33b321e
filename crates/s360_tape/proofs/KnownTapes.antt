-- Commands of a tape worked by hand, which the definitions have to give.
use Rattle.std.specs.Prelude.{◌≡◌, Bool, true, false, ℕ, List, [], ◌∷◌, refl}
use Rattle.s360_device.specs.declared.device.Begin.TheVariants.{Input, Output, Control, Refused}
use Rattle.s360_device.specs.Commands.{command_of}
use Rattle.s360_device.specs.Sense.{no_sense, command_reject, intervention_required}
use Rattle.s360_device.specs.Rows.{begin_of, input_of, exception_of, after_command}
use Rattle.s360_tape.specs.declared.item.TapeItem.{TapeItem}
use Rattle.s360_tape.specs.declared.item.TapeItem.TheVariants.{Block, Mark}
use Rattle.s360_tape.specs.Tape.{Tape, tape_table, new_tape, write_protected, at_load_point}

-- a block of one byte
abbrev one : ℕ → TapeItem
one byte = Block (byte ∷ [])

-- a tape with two files: C1 C2 C3 and E4, a mark, D5, a mark
abbrev two_files : List TapeItem
two_files = Block (0xC1 ∷ 0xC2 ∷ 0xC3 ∷ []) ∷ one 0xE4 ∷ Mark ∷ one 0xD5 ∷ Mark ∷ []

abbrev at_place : ℕ → List ℕ → Tape
at_place place sense = record { sense = sense; media = record { items = two_files; position = place; protected = false; unloaded = false } }

abbrev kept : Bool → Bool → List ℕ → Tape
kept protected unloaded sense = record { sense = sense; media = record { items = two_files; position = 0; protected = protected; unloaded = unloaded } }

-- 01 at position 2 of five blocks: the block is the third and last, and the position is after it
pub write_discards : after_command tape_table
    (record { sense = no_sense; media = record { items = one 0xC1 ∷ one 0xC2 ∷ one 0xC3 ∷ one 0xC4 ∷ one 0xC5 ∷ []; position = 2; protected = false; unloaded = false } })
    (command_of 0x01) (0xE9 ∷ [])
    ≡ record { sense = no_sense; media = record { items = one 0xC1 ∷ one 0xC2 ∷ one 0xE9 ∷ []; position = 3; protected = false; unloaded = false } }
write_discards = refl

pub write_begins : begin_of tape_table (at_place 0 no_sense) (command_of 0x01) ≡ Output 65535
write_begins = refl

-- 1F at the end of the first block: a mark, and what came after is discarded; 17 changes nothing
pub mark_discards : after_command tape_table (at_place 1 no_sense) (command_of 0x1F) []
    ≡ record { sense = no_sense; media = record { items = Block (0xC1 ∷ 0xC2 ∷ 0xC3 ∷ []) ∷ Mark ∷ []; position = 2; protected = false; unloaded = false } }
mark_discards = refl

pub gap_stays : after_command tape_table (at_place 3 at_load_point) (command_of 0x17) [] ≡ at_place 3 no_sense
gap_stays = refl

-- 02 at the load point, and of a mark, which gives no byte and unit exception
pub read_gives : input_of tape_table (at_place 0 no_sense) (command_of 0x02) ≡ 0xC1 ∷ 0xC2 ∷ 0xC3 ∷ []
read_gives = refl

pub read_moves : after_command tape_table (at_place 0 no_sense) (command_of 0x02) [] ≡ at_place 1 no_sense
read_moves = refl

pub mark_begins : begin_of tape_table (at_place 2 no_sense) (command_of 0x02) ≡ Input 0
mark_begins = refl

pub mark_gives_exception : exception_of tape_table (at_place 2 no_sense) (command_of 0x02) ≡ true
mark_gives_exception = refl

pub mark_is_passed : after_command tape_table (at_place 2 no_sense) (command_of 0x02) [] ≡ at_place 3 no_sense
mark_is_passed = refl

-- 0C after the first block: its last byte first, and the position before it
pub backward_gives : input_of tape_table (at_place 1 no_sense) (command_of 0x0C) ≡ 0xC3 ∷ 0xC2 ∷ 0xC1 ∷ []
backward_gives = refl

pub backward_moves : after_command tape_table (at_place 1 no_sense) (command_of 0x0C) [] ≡ at_place 0 no_sense
backward_moves = refl

pub backward_mark : exception_of tape_table (at_place 3 no_sense) (command_of 0x0C) ≡ true
backward_mark = refl

-- 37 and 27 over the mark
pub space_gives_exception : exception_of tape_table (at_place 2 no_sense) (command_of 0x37) ≡ true
space_gives_exception = refl

pub backspace_moves : after_command tape_table (at_place 3 no_sense) (command_of 0x27) [] ≡ at_place 2 no_sense
backspace_moves = refl

-- 3F goes to just after the next mark, and 2F to just before the previous one or to the load point, with no unit exception
pub space_file_moves : after_command tape_table (at_place 0 no_sense) (command_of 0x3F) [] ≡ at_place 3 no_sense
space_file_moves = refl

pub space_file_is_silent : exception_of tape_table (at_place 0 no_sense) (command_of 0x3F) ≡ false
space_file_is_silent = refl

pub backspace_file_moves : after_command tape_table (at_place 5 no_sense) (command_of 0x2F) [] ≡ at_place 4 no_sense
backspace_file_moves = refl

pub backspace_file_again : after_command tape_table (at_place 4 no_sense) (command_of 0x2F) [] ≡ at_place 2 no_sense
backspace_file_again = refl

pub backspace_file_to_0 : after_command tape_table (at_place 2 no_sense) (command_of 0x2F) [] ≡ at_place 0 no_sense
backspace_file_to_0 = refl

-- 07 rewinds; 0F unloads too, and then a read finds nothing, though 04 gives its six sense bytes
pub rewind_moves : after_command tape_table (at_place 4 no_sense) (command_of 0x07) [] ≡ at_place 0 no_sense
rewind_moves = refl

pub unload_unloads : after_command tape_table (at_place 4 no_sense) (command_of 0x0F) [] ≡ kept false true no_sense
unload_unloads = refl

pub unloaded_refuses : begin_of tape_table (kept false true no_sense) (command_of 0x02) ≡ Refused intervention_required
unloaded_refuses = refl

pub sense_of_unloaded : input_of tape_table (kept false true at_load_point) (command_of 0x04) ≡ 0x00 ∷ 0x08 ∷ 0 ∷ 0 ∷ 0 ∷ 0 ∷ []
sense_of_unloaded = refl

pub no_operation_of_unloaded : begin_of tape_table (kept false true no_sense) (command_of 0x03) ≡ Control
no_operation_of_unloaded = refl

-- unloaded comes before protected, and an unknown code before both
pub unloaded_first : begin_of tape_table (kept true true no_sense) (command_of 0x01) ≡ Refused intervention_required
unloaded_first = refl

pub unknown_first : begin_of tape_table (kept true true no_sense) (command_of 0x05) ≡ Refused command_reject
unknown_first = refl

pub protected_refuses : begin_of tape_table (kept true false no_sense) (command_of 0x17) ≡ Refused write_protected
protected_refuses = refl

pub protected_leaves : after_command tape_table (kept true false no_sense) (command_of 0x01) [] ≡ kept true false write_protected
protected_leaves = refl

-- nothing before the load point, nothing after the last item, no mark ahead
pub no_item_before : after_command tape_table (at_place 0 no_sense) (command_of 0x27) [] ≡ at_place 0 at_load_point
no_item_before = refl

pub no_item_after : begin_of tape_table (at_place 5 no_sense) (command_of 0x02) ≡ Refused intervention_required
no_item_after = refl

pub no_mark_ahead : begin_of tape_table (at_place 5 no_sense) (command_of 0x3F) ≡ Refused intervention_required
no_mark_ahead = refl

pub no_file_before : begin_of tape_table (at_place 0 no_sense) (command_of 0x2F) ≡ Refused at_load_point
no_file_before = refl

-- a blank tape
pub blank_tape : begin_of tape_table (new_tape [] false) (command_of 0x02) ≡ Refused intervention_required
blank_tape = refl
