-- The 1052 console. Its commands are modelled on its component description; the limit of a line, the alarm as an item
-- of what was typed, and its sense bytes are the own profile.
use Rattle.std.specs.Prelude.{ℕ, false, List, [], ◌∷◌, ◌++◌, ◌+◌, slice_get}
use Rattle.std.specs.Option.{option_map_or}
use Rattle.s360_device.specs.Sense.{no_sense, command_reject}
use Rattle.s360_device.specs.declared.device_with.DeviceWith.{DeviceWith}
use Rattle.s360_device.specs.Rows.{Row, refused, not_yet, input, output, control, Table}
use Rattle.s360_model.specs.Tables.{entry_in}
use Rattle.s360_print.specs.declared.typed_line.TypedItem.{TypedItem}
use Rattle.s360_print.specs.declared.typed_line.TypedItem.TheVariants.{Text, Return, Alarm}
use Rattle.s360_print.specs.declared.console_command.ConsoleCommand.{ConsoleCommand}
use Rattle.s360_print.specs.declared.console_command.ConsoleCommand.TheVariants.{Write, WriteAndReturn, Read, SoundAlarm}
use Rattle.s360_print.specs.TypedLines.{line_limit}
use Rattle.s360_print.specs.ConsoleCommands.{console_commands}

-- what was typed, the lines that the operator entered, both in their order, and how many of the lines were taken
pub record ConsoleMedia : Type 0 where
  pub typed : List TypedItem
  pub entered : List (List ℕ)
  pub taken : ℕ

abbrev pub Console : Type 0
Console = DeviceWith ConsoleMedia

-- a new console
abbrev pub new_console : Console
new_console = record { sense = no_sense; media = record { typed = []; entered = []; taken = 0 } }

-- an item more is typed
abbrev pub with_item : ConsoleMedia → TypedItem → ConsoleMedia
with_item m item = record m { typed = m.typed ++ item ∷ [] }

-- the first of the entered lines that was not taken yet is taken, once there is one
abbrev pub read_row : ConsoleMedia → Row ConsoleMedia
read_row m = option_map_or (λ line. input line (record m { taken = m.taken + 1 }) false) (slice_get m.entered m.taken) not_yet

-- a line is typed, and the carriage may be returned
abbrev pub typed_by : ConsoleMedia → ConsoleCommand → List ℕ → ConsoleMedia
typed_by m WriteAndReturn bytes = with_item m (Return bytes)
typed_by m command bytes = with_item m (Text bytes)

abbrev pub row_of_console_command : ConsoleMedia → ConsoleCommand → Row ConsoleMedia
row_of_console_command m Write = output line_limit (typed_by m Write) false
row_of_console_command m WriteAndReturn = output line_limit (typed_by m WriteAndReturn) false
row_of_console_command m Read = read_row m
row_of_console_command m SoundAlarm = control (with_item m Alarm) false

abbrev pub console_row : ConsoleMedia → ℕ → Row ConsoleMedia
console_row m code = option_map_or (row_of_console_command m) (entry_in console_commands code) (refused command_reject)

abbrev pub console_table : Table ConsoleMedia
console_table = record { rows = console_row; sense_bytes = 1 }

-- a line more is entered by the operator
abbrev pub with_line : ConsoleMedia → List ℕ → ConsoleMedia
with_line m line = record m { entered = m.entered ++ line ∷ [] }
