-- What is shown of an item of a unit's media (own profile). Each line is ended by one line feed.
use Rattle.std.specs.Prelude.{ℕ, Option, Some, None, List, [], ◌∷◌, ◌++◌, codes, length, take}
use Rattle.std.specs.Option.{option_map_or}
use Rattle.s360_model.specs.Text.{hex_bytes}
use Rattle.s360_text.specs.Counts.{counted}
use Rattle.s360_word.specs.declared.unit.Unit.{Unit}
use Rattle.s360_device.specs.declared.card.PunchStacker.{PunchStacker}
use Rattle.s360_device.specs.declared.card.PunchStacker.TheVariants.{P1, P2, Rp3 as punch_rp3}
use Rattle.s360_device.specs.declared.card.ReadStacker.{ReadStacker}
use Rattle.s360_device.specs.declared.card.ReadStacker.TheVariants.{R1, R2, Rp3 as read_rp3}
use Rattle.s360_device.specs.Items.{item_in}
use Rattle.s360_device.specs.Punch.{Punch}
use Rattle.s360_device.specs.Reader.{Reader}
use Rattle.s360_print.specs.declared.paper.Record.{Record}
use Rattle.s360_print.specs.declared.typed_line.TypedItem.{TypedItem}
use Rattle.s360_print.specs.declared.typed_line.TypedItem.TheVariants.{Text, Return, Alarm}
use Rattle.s360_print.specs.Console.{Console}
use Rattle.s360_print.specs.Printer.{Printer}
use Rattle.s360_tape.specs.declared.item.TapeItem.{TapeItem}
use Rattle.s360_tape.specs.declared.item.TapeItem.TheVariants.{Block, Mark}
use Rattle.s360_tape.specs.Tape.{Tape}
use Rattle.s360_channel.specs.declared.configured_unit.ConfiguredUnit.{ConfiguredUnit}
use Rattle.s360_channel.specs.declared.configured_unit.ConfiguredUnit.TheVariants as units
use Rattle.s360_machine.specs.declared.refusal.Refusal.TheVariants.{NoSuchUnit}
use Rattle.s360_machine.specs.Machine.{Machine}
use Rattle.s360_channel.specs.ConfiguredUnits.{unit_at}
use Rattle.s360_language.specs.declared.show_bytes.RowForm.TheVariants.{Signs}
use Rattle.s360_language.specs.declared.show_items.ItemForm.{ItemForm}
use Rattle.s360_language.specs.declared.show_items.ItemForm.TheVariants.{OnItsLine, InRows}
use Rattle.s360_language.specs.Names.{refused_text}
use Rattle.s360_language.specs.ShownBytes.{in_rows, signs_behind, trimmed}

-- an item: what its line begins with, and behind it the item's bytes as signs, without the blanks at the end; or below it all its
-- bytes in rows of sixteen, with their digits and signs
abbrev pub item_told : ItemForm → List ℕ → List ℕ → List ℕ
item_told OnItsLine begun bytes = begun ++ signs_behind (trimmed bytes) ++ codes "\n"
item_told InRows begun bytes = begun ++ codes "\n" ++ in_rows Signs 0 16 bytes

-- there is no such item
abbrev pub no_item : List ℕ
no_item = codes "none\n"

-- what has a card of the reader: the stacker to which it was fed, else the hopper
abbrev pub holder_name : Option ReadStacker → List ℕ
holder_name None = codes "hopper"
holder_name (Some R1) = codes "R1"
holder_name (Some R2) = codes "R2"
holder_name (Some read_rp3) = codes "RP3"

-- the stackers of the punch
abbrev pub stacker_name : PunchStacker → List ℕ
stacker_name P1 = codes "P1"
stacker_name P2 = codes "P2"
stacker_name punch_rp3 = codes "RP3"

-- a card of the reader's deck, and a card that was punched, by its number
abbrev pub deck_card : ItemForm → Reader → ℕ → List ℕ
deck_card form r number = option_map_or (item_told form (holder_name (item_in r.media.stackers number))) (item_in r.media.cards number) no_item

abbrev pub punched_card : ItemForm → Punch → ℕ → List ℕ
punched_card form p number = option_map_or (λ c. item_told form (stacker_name c.stacker) c.card) (item_in p.media number) no_item

-- where a line was printed
abbrev pub place_of_record : Record → List ℕ
place_of_record r = counted (codes "page ") r.page ++ counted (codes " line ") r.line

-- a line that was printed
abbrev pub record_told : ItemForm → Record → List ℕ
record_told form r = item_told form (place_of_record r) r.bytes

-- what the console typed: a line without or with a return after it, or an alarm
abbrev pub typed_told : ItemForm → TypedItem → List ℕ
typed_told form (Text line) = item_told form (codes "type") line
typed_told form (Return line) = item_told form (codes "return") line
typed_told form Alarm = codes "alarm\n"

-- a line that was printed, and an item that was typed, by its number
abbrev pub printed_record : ItemForm → Printer → ℕ → List ℕ
printed_record form p number = option_map_or (record_told form) (item_in p.media.records number) no_item

abbrev pub typed_item : ItemForm → Console → ℕ → List ℕ
typed_item form c number = option_map_or (typed_told form) (item_in c.media.typed number) no_item

-- the first bytes of a block, if it has any
abbrev pub block_begin : List ℕ → List ℕ
block_begin [] = []
block_begin (byte ∷ bytes) = codes " " ++ hex_bytes (take 32 (byte ∷ bytes))

-- a block, with the number of its bytes, or a mark
abbrev pub block_told : ItemForm → List ℕ → List ℕ
block_told OnItsLine bytes = block_begin bytes ++ codes "\n"
block_told InRows bytes = codes "\n" ++ in_rows Signs 0 16 bytes

abbrev pub tape_item_told : ItemForm → TapeItem → List ℕ
tape_item_told form (Block bytes) = counted (codes "block ") (length bytes) ++ block_told form bytes
tape_item_told form Mark = codes "mark\n"

-- a block or mark of a tape, by its number
abbrev pub tape_item : ItemForm → Tape → ℕ → List ℕ
tape_item form t number = option_map_or (tape_item_told form) (item_in t.media.items number) no_item

-- an item of a unit's media, if the machine has the unit
abbrev pub item_of_unit : ItemForm → Machine → Option ConfiguredUnit → ℕ → List ℕ
item_of_unit form m (Some units.Reader) number = deck_card form m.media.reader number
item_of_unit form m (Some units.Punch) number = punched_card form m.media.punch number
item_of_unit form m (Some units.Printer) number = printed_record form m.media.printer number
item_of_unit form m (Some units.Console) number = typed_item form m.media.console number
item_of_unit form m (Some units.Tape0) number = tape_item form m.media.tape0 number
item_of_unit form m (Some units.Tape1) number = tape_item form m.media.tape1 number
item_of_unit form m None number = refused_text NoSuchUnit

abbrev pub item_text : ItemForm → Machine → Unit → ℕ → List ℕ
item_text form m unit number = item_of_unit form m (unit_at unit.0) number
