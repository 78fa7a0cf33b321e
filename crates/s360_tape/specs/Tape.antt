-- The 2400 magnetic tape as it is seen. Its commands are modelled on GA22-6866, "2400-Series Magnetic Tape Units"; that
-- erase gap moves nothing, that spacing over a file gives no unit exception, where backspacing over a file stops, the
-- end of rewind and unload, and when a command is refused with which sense bytes, are the own profile.
use Rattle.std.specs.Prelude.{ℕ, ◌+◌, ◌-◌, Bool, true, false, ◌&&◌, if◌then◌else◌, List, [], ◌∷◌, ◌++◌, take, drop, reverse, nat_eq, slice_get}
use Rattle.std.specs.Option.{option_map_or}
use Rattle.s360_device.specs.Sense.{no_sense, command_reject, intervention_required}
use Rattle.s360_device.specs.declared.device_with.DeviceWith.{DeviceWith}
use Rattle.s360_device.specs.Rows.{Row, refused, input, output, control, Table}
use Rattle.s360_model.specs.Tables.{entry_in}
use Rattle.s360_device.specs.Items.{item_in}
use Rattle.s360_tape.specs.declared.item.TapeItem.{TapeItem}
use Rattle.s360_tape.specs.declared.item.TapeItem.TheVariants.{Block, Mark}
use Rattle.s360_tape.specs.declared.tape_command.TapeCommand.{TapeCommand}
use Rattle.s360_tape.specs.declared.tape_command.TapeCommand.TheVariants.{Write, Read, Rewind, ReadBackward, RewindUnload, EraseGap}
use Rattle.s360_tape.specs.declared.tape_command.TapeCommand.TheVariants.{WriteMark, BackspaceRecord, BackspaceFile, SpaceRecord, SpaceFile}
use Rattle.s360_tape.specs.Blocks.{block_limit}
use Rattle.s360_tape.specs.Items.{bytes_of, is_mark, after_mark, before_mark}
use Rattle.s360_tape.specs.TapeCommands.{tape_commands, writes}

-- the items, the number of those before the position, whether the tape is protected against writing, and whether it
-- is unloaded
pub record TapeMedia : Type 0 where
  pub items : List TapeItem
  pub position : ℕ
  pub protected : Bool
  pub unloaded : Bool

abbrev pub Tape : Type 0
Tape = DeviceWith TapeMedia

-- a new tape is at its load point
abbrev pub new_tape : List TapeItem → Bool → Tape
new_tape items protected = record {
  sense = no_sense;
  media = record { items = items; position = 0; protected = protected; unloaded = false };
}

-- command reject, and in the second byte that the tape is protected
abbrev pub write_protected : List ℕ
write_protected = 0x80 ∷ 0x02 ∷ 0 ∷ 0 ∷ 0 ∷ 0 ∷ []

-- in the second byte that the tape is at its load point
abbrev pub at_load_point : List ℕ
at_load_point = 0x00 ∷ 0x08 ∷ 0 ∷ 0 ∷ 0 ∷ 0 ∷ []

-- the tape at another position
abbrev pub moved_to : TapeMedia → ℕ → TapeMedia
moved_to t place = record t { position = place }

-- an item is written at the position: all later ones are discarded
abbrev pub with_item : TapeMedia → TapeItem → TapeMedia
with_item t item = record t { items = take t.position t.items ++ item ∷ []; position = t.position + 1 }

-- the item at the position is read, and there may be none
abbrev pub read_row : TapeMedia → Row TapeMedia
read_row t =
    option_map_or (λ item. input (bytes_of item) (moved_to t (t.position + 1)) (is_mark item)) (slice_get t.items t.position) (refused intervention_required)

-- the item before the position is read, its last byte first
abbrev pub read_backward_row : TapeMedia → Row TapeMedia
read_backward_row t =
    option_map_or (λ item. input (reverse (bytes_of item)) (moved_to t (t.position - 1)) (is_mark item)) (item_in t.items t.position) (refused at_load_point)

abbrev pub space_record_row : TapeMedia → Row TapeMedia
space_record_row t = option_map_or (λ item. control (moved_to t (t.position + 1)) (is_mark item)) (slice_get t.items t.position) (refused intervention_required)

abbrev pub backspace_record_row : TapeMedia → Row TapeMedia
backspace_record_row t = option_map_or (λ item. control (moved_to t (t.position - 1)) (is_mark item)) (item_in t.items t.position) (refused at_load_point)

-- to just after the next mark, which gives no unit exception
abbrev pub space_file_row : TapeMedia → Row TapeMedia
space_file_row t = option_map_or (λ place. control (moved_to t place) false) (after_mark t.position (drop t.position t.items)) (refused intervention_required)

-- to just before the previous mark, which gives no unit exception, or to the load point where there is none
abbrev pub backspace_file_row : TapeMedia → Row TapeMedia
backspace_file_row t = if nat_eq t.position 0 then refused at_load_point else control (moved_to t (before_mark t.items t.position)) false

-- a command of a tape that is loaded, and is not protected against it
abbrev pub row_of_command : TapeMedia → TapeCommand → Row TapeMedia
row_of_command t Write = output block_limit (λ bytes. with_item t (Block bytes)) false
row_of_command t WriteMark = control (with_item t Mark) false
row_of_command t EraseGap = control t false
row_of_command t Read = read_row t
row_of_command t ReadBackward = read_backward_row t
row_of_command t SpaceRecord = space_record_row t
row_of_command t BackspaceRecord = backspace_record_row t
row_of_command t SpaceFile = space_file_row t
row_of_command t BackspaceFile = backspace_file_row t
row_of_command t Rewind = control (moved_to t 0) false
row_of_command t RewindUnload = control (record t { position = 0; unloaded = true }) false

-- refusals in their order: an unknown code, an unloaded tape, a protected one, and what the row says of the place
abbrev pub row_of_known : TapeMedia → TapeCommand → Row TapeMedia
row_of_known t command =
    if t.unloaded then refused intervention_required
    else if t.protected && writes command then refused write_protected
    else row_of_command t command

abbrev pub tape_row : TapeMedia → ℕ → Row TapeMedia
tape_row t code = option_map_or (row_of_known t) (entry_in tape_commands code) (refused command_reject)

abbrev pub tape_table : Table TapeMedia
tape_table = record { rows = tape_row; sense_bytes = 6 }
