-- What is shown of a machine (own profile). Each line is ended by one line feed.
use Rattle.std.specs.Prelude.{ℕ, ◌+◌, ◌/◌, nat_lt, if◌then◌else◌, Option, Some, None, List, [], ◌++◌, codes, length}
use Rattle.s360_model.specs.Text.{hex_text}
use Rattle.s360_model.specs.Storage.{block_size}
use Rattle.s360_word.specs.declared.unit.Unit.{Unit}
use Rattle.s360_store.specs.declared.place.Place.{Place}
use Rattle.s360_store.specs.declared.place.Place.TheVariants as places
use Rattle.s360_channel.specs.declared.configured_unit.ConfiguredUnit.{ConfiguredUnit}
use Rattle.s360_channel.specs.ConfiguredUnits.{unit_at}
use Rattle.s360_machine.specs.declared.refusal.Refusal.TheVariants.{NoSuchUnit, OutsideStorage}
use Rattle.s360_machine.specs.Machine.{Machine}
use Rattle.s360_language.specs.declared.command.Shown.{Shown}
use Rattle.s360_language.specs.declared.command.Shown.TheVariants.{Registers, Psw, Storage, StorageKey, External, UnitState, Device, Item, Image}
use Rattle.s360_language.specs.declared.show_bytes.RowForm.TheVariants.{Digits}
use Rattle.s360_language.specs.Names.{refused_text}
use Rattle.s360_language.specs.ShownBytes.{storage_rows}
use Rattle.s360_language.specs.ShownImages.{image_text}
use Rattle.s360_language.specs.declared.show_items.ItemForm.TheVariants.{OnItsLine}
use Rattle.s360_language.specs.ShownItems.{item_text}
use Rattle.s360_language.specs.Values.{value_words}

-- the value of a place behind a name
abbrev pub value_line : List ℕ → Machine → Place → List ℕ
value_line name m place = name ++ value_words m place ++ codes "\n"

-- the line of four registers from this one on, after the name of the first
abbrev pub register_line : Machine → ℕ → List ℕ
register_line m n =
    codes "r" ++ hex_text 1 n ++ value_words m (places.Register n) ++ value_words m (places.Register (n + 1)) ++ value_words m (places.Register (n + 2))
    ++ value_words m (places.Register (n + 3)) ++ codes "\n"

abbrev pub registers_text : Machine → List ℕ
registers_text m = register_line m 0 ++ register_line m 4 ++ register_line m 8 ++ register_line m 12

-- the PSW and the run state
abbrev pub psw_text : Machine → List ℕ
psw_text m = codes "psw" ++ value_words m places.Psw ++ value_words m places.Run ++ codes "\n"

-- the storage key of the block that an address lies in
abbrev pub key_text : Machine → ℕ → List ℕ
key_text m at =
    if nat_lt at (length m.core.storage.bytes) then value_line (codes "key") m (places.Key (at / block_size)) else refused_text OutsideStorage

-- the value of a place of a unit, if the machine has the unit
abbrev pub text_of_unit : Machine → Unit → Place → Option ConfiguredUnit → List ℕ
text_of_unit m unit place None = refused_text NoSuchUnit
text_of_unit m unit place (Some configured) = hex_text 3 unit.0 ++ value_line [] m place

abbrev pub shown_text : Machine → Shown → List ℕ
shown_text m Registers = registers_text m
shown_text m Psw = psw_text m
shown_text m (Storage at count) = storage_rows Digits m.core.storage at count
shown_text m (StorageKey at) = key_text m at
shown_text m External = value_line (codes "ext") m places.External
shown_text m (UnitState unit) = text_of_unit m unit (places.UnitState unit) (unit_at unit.0)
shown_text m (Device unit) = text_of_unit m unit (places.UnitMedia unit) (unit_at unit.0)
shown_text m (Item unit number) = item_text OnItsLine m unit number
shown_text m (Image unit) = image_text m unit
