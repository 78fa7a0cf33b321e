-- The card reader of the 2540. Its commands are modelled on A21-9033, "2540 Card Read Punch"; that reads and feeds
-- may come in any order, what it does with no card left, and its sense bytes are the own profile.
use Rattle.std.specs.Prelude.{ℕ, Bool, true, false, Option, Some, None, List, [], ◌∷◌, ◌++◌, length, slice_get, if◌then◌else◌}
use Rattle.std.specs.Option.{option_map_or}
use Rattle.s360_device.specs.declared.card.ReadStacker.{ReadStacker}
use Rattle.s360_device.specs.declared.reader_command.ReaderCommand.{ReaderCommand}
use Rattle.s360_device.specs.declared.reader_command.ReaderCommand.TheVariants.{Read, Feed}
use Rattle.s360_device.specs.Sense.{no_sense, command_reject, intervention_required}
use Rattle.s360_device.specs.declared.device_with.DeviceWith.{DeviceWith}
use Rattle.s360_device.specs.Rows.{Row, refused, input, control, Table}
use Rattle.s360_model.specs.Tables.{entry_in}
use Rattle.s360_device.specs.ReaderCommands.{reader_commands}

-- the cards of the deck, the stackers of those that were fed, in the same order, and whether the end-of-file key
-- was pressed
pub record ReaderMedia : Type 0 where
  pub cards : List (List ℕ)
  pub stackers : List ReadStacker
  pub end_of_file : Bool

abbrev pub Reader : Type 0
Reader = DeviceWith ReaderMedia

-- a new reader has its deck in the hopper
abbrev pub new_reader : List (List ℕ) → Reader
new_reader deck = record { sense = no_sense; media = record { cards = deck; stackers = []; end_of_file = false } }

-- the card that is read or fed next, if one is left
abbrev pub next_card : ReaderMedia → Option (List ℕ)
next_card r = slice_get r.cards (length r.stackers)

-- the next card is fed to a stacker
abbrev pub fed_to : ReaderMedia → ReadStacker → ReaderMedia
fed_to r stacker = record r { stackers = r.stackers ++ stacker ∷ [] }

-- a command with a card left
abbrev pub row_with_card : ReaderMedia → List ℕ → ReaderCommand → Row ReaderMedia
row_with_card r card (Read (Some stacker)) = input card (fed_to r stacker) false
row_with_card r card (Read None) = input card r false
row_with_card r card (Feed stacker) = control (fed_to r stacker) false

-- a command with no card left, where the end-of-file key was pressed: unit exception
abbrev pub row_at_end : ReaderMedia → ReaderCommand → Row ReaderMedia
row_at_end r (Read stacker) = input [] r true
row_at_end r (Feed stacker) = control r true

-- a command with no card left
abbrev pub row_without_card : ReaderMedia → ReaderCommand → Row ReaderMedia
row_without_card r command = if r.end_of_file then row_at_end r command else refused intervention_required

abbrev pub row_of_command : ReaderMedia → ReaderCommand → Row ReaderMedia
row_of_command r command = option_map_or (λ card. row_with_card r card command) (next_card r) (row_without_card r command)

abbrev pub reader_row : ReaderMedia → ℕ → Row ReaderMedia
reader_row r code = option_map_or (row_of_command r) (entry_in reader_commands code) (refused command_reject)

abbrev pub reader_table : Table ReaderMedia
reader_table = record { rows = reader_row; sense_bytes = 1 }

-- the reader with its end-of-file key pressed
abbrev pub with_end_key : Reader → Reader
with_end_key r = record r { media = record r.media { end_of_file = true } }
