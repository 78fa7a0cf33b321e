-- The value that a place has, in digits and words, each after a blank (own profile). A place that the machine lacks has none.
use Rattle.std.specs.Prelude.{ℕ, Bool, nat_lt, if◌then◌else◌, Option, Some, None, List, [], ◌++◌, codes, length, slice_index}
use Rattle.s360_model.specs.Psw.{stored_psw}
use Rattle.s360_model.specs.Storage.{Storage, fetch_bit_of_block, key_of_block}
use Rattle.s360_model.specs.Text.{hex_text}
use Rattle.s360_word.specs.declared.unit.Unit.{Unit}
use Rattle.s360_store.specs.declared.place.Place.{Place}
use Rattle.s360_store.specs.declared.place.Place.TheVariants.{Psw, Register, Byte, Key, Run, External, UnitState as unit_state, UnitMedia}
use Rattle.s360_channel.specs.declared.configured_unit.ConfiguredUnit.{ConfiguredUnit}
use Rattle.s360_channel.specs.declared.unit_state.UnitState.{UnitState}
use Rattle.s360_channel.specs.ConfiguredUnits.{attention_at, state_at, unit_at}
use Rattle.s360_machine.specs.Machine.{Machine}
use Rattle.s360_language.specs.Names.{external_name, run_state_name}
use Rattle.s360_language.specs.ShownUnits.{control_words, device_words}

-- the PSW as it would be stored with no interruption code and no instruction length, in sixteen digits
abbrev pub psw_words : ℕ → List ℕ
psw_words psw = codes " " ++ hex_text 16 (stored_psw psw 0 0)

-- a word of eight digits, and a byte of two
abbrev pub register_words : List ℕ → ℕ → List ℕ
register_words registers n = if nat_lt n 16 then codes " " ++ hex_text 8 (slice_index registers n) else []

abbrev pub byte_words : Storage → ℕ → List ℕ
byte_words s at = if nat_lt at (length s.bytes) then codes " " ++ hex_text 2 (slice_index s.bytes at) else []

-- the fetch bit of a block, where fetches are protected
abbrev pub fetch_words : Bool → ℕ → List ℕ
fetch_words fetch_protection k = if fetch_protection then (if fetch_bit_of_block k then codes " fetch 1" else codes " fetch 0") else []

-- its storage key, and the fetch bit
abbrev pub block_key_words : Bool → ℕ → List ℕ
block_key_words fetch_protection k = codes " " ++ hex_text 1 (key_of_block k) ++ fetch_words fetch_protection k

abbrev pub key_words : Storage → ℕ → List ℕ
key_words s block = if nat_lt block (length s.keys) then block_key_words s.fetch_protection (slice_index s.keys block) else []

-- what the channel does for a unit, and its device
abbrev pub words_of_state : Option UnitState → Bool → List ℕ
words_of_state None attention = []
words_of_state (Some state) attention = control_words state attention

abbrev pub control_words_of : Machine → Unit → List ℕ
control_words_of m unit = words_of_state (state_at m.units unit) (attention_at m.units unit)

abbrev pub words_of_device : Machine → Option ConfiguredUnit → List ℕ
words_of_device m None = []
words_of_device m (Some unit) = device_words m unit

abbrev pub device_words_of : Machine → Unit → List ℕ
device_words_of m unit = words_of_device m (unit_at unit.0)

unfoldable pub value_words : Machine → Place → List ℕ
value_words m Psw = psw_words m.core.psw
value_words m (Register n) = register_words m.core.registers n
value_words m (Byte at) = byte_words m.core.storage at
value_words m (Key block) = key_words m.core.storage block
value_words m Run = run_state_name m.control.run_state
value_words m External = external_name m.control.external
value_words m (unit_state unit) = control_words_of m unit
value_words m (UnitMedia unit) = device_words_of m unit
