-- The lines of the language of scripts (own profile).
use Rattle.std.specs.Prelude.{◌≡◌, ◌⊎◌, ◌/◌, ℕ, Bool, true, false, nat_eq, if◌then◌else◌, Option, None, Some, Result, Ok, Err, List, [], ◌∷◌, codes, length, ⊤}
use Rattle.std.specs.List.{filter_map, list_all}
use Rattle.std.specs.Option.{is_some, option_map}
use Rattle.std.specs.Result.{result_ok}
use Rattle.hex.specs.Hex.{decode_of}
use Rattle.s360_model.specs.Storage.{block_size}
use Rattle.s360_store.specs.declared.place.Place.{Place}
use Rattle.s360_store.specs.declared.place.Place.TheVariants.{Psw, Register, Byte, Key as key_place, Run as run_place, External, UnitState, UnitMedia}
use Rattle.s360_word.specs.declared.unit.Unit.{Unit as UnitAddress}
use Rattle.s360_print.specs.Signs.{ebcdic_of}
use Rattle.s360_machine.specs.declared.event.Patch.TheVariants.{Bytes as bytes_patch, Register as register_patch, StorageKey as storage_key_patch}
use Rattle.s360_machine.specs.declared.event.Patch.TheVariants.{FetchBit as fetch_patch, Psw as psw_patch}
use Rattle.s360_machine.specs.declared.operator.Key.{Key as OperatorKey}
use Rattle.s360_machine.specs.declared.operator.Key.TheVariants.{Start, Stop, Reset, Interrupt, EndOfFile, Request, Enter, Load}
use Rattle.s360_language.specs.declared.command.Command.{Command}
use Rattle.s360_language.specs.declared.command.Command.TheVariants.{Step, Channel, Tick, Key, Patch, Back, Standing, Last, Show, Break, Clear, Until}
use Rattle.s360_language.specs.declared.command.Command.TheVariants.{Run, Withdraw}
use Rattle.s360_language.specs.declared.command.Shown.TheVariants.{Registers, Psw as psw, Storage, StorageKey, External as external}
use Rattle.s360_language.specs.declared.command.Shown.TheVariants.{UnitState as unit_state, Device as device, Item as item, Image as image}
use Rattle.s360_language.specs.declared.command.LineFault.{LineFault}
use Rattle.s360_language.specs.declared.command.LineFault.TheVariants.{Memory}
use Rattle.s360_language.specs.Digits.{hex_number, doubleword_of, count_of}
use Rattle.s360_language.specs.Lines.{Line, begins, judged, kind, line, makes, one, one_of, part, takes, text, two}
use Rattle.s360_language.specs.Words.{text_behind}

abbrev pub Reading : Type 0
Reading = Result Command LineFault

-- the most storage that one line shows, in bytes
abbrev pub most_shown : ℕ
most_shown = 256

-- the greatest count of events, and number of an item or a change
abbrev pub most_count : ℕ
most_count = 10000000

-- ---- the kinds of arguments

-- numbers of so many hexadecimal digits
abbrev pub address : List ℕ → Option ℕ
address word = hex_number 6 word

abbrev pub word_of : List ℕ → Option ℕ
word_of word = hex_number 8 word

abbrev pub register : List ℕ → Option ℕ
register word = hex_number 1 word

abbrev pub storage_key : List ℕ → Option ℕ
storage_key word = hex_number 1 word

abbrev pub unit : List ℕ → Option UnitAddress
unit word = option_map (λ n. record { 0 = n }) (hex_number 3 word)

-- bytes of two digits each, at least one byte
abbrev pub bytes_in : List ℕ → Option (List ℕ)
bytes_in word = if nat_eq (length word) 0 then None else result_ok (decode_of word)

abbrev pub bit_of : List ℕ → Option Bool
bit_of word = one_of ((codes "0", false) ∷ (codes "1", true) ∷ []) word

-- the operator's key of a name
abbrev pub key_of : List ℕ → Option OperatorKey
key_of word =
    one_of ((codes "start", Start) ∷ (codes "stop", Stop) ∷ (codes "reset", Reset) ∷ (codes "interrupt", Interrupt) ∷ (codes "eof", EndOfFile)
    ∷ (codes "request", Request) ∷ []) word

-- the EBCDIC bytes of a text in ASCII, if each of its signs has one
abbrev pub ebcdic_text : List ℕ → Option (List ℕ)
ebcdic_text signs = if list_all (λ sign. is_some (ebcdic_of sign)) signs then Some (filter_map ebcdic_of signs) else None

-- a place
abbrev pub places : List (Line (Place × ℕ))
places =
    line (codes "s") (takes address (λ at. begins (Byte at))) ∷
    line (codes "r") (takes register (λ n. begins (Register n))) ∷
    line (codes "k") (takes address (λ at. begins (key_place (at / block_size)))) ∷
    line (codes "p") (begins Psw) ∷
    line (codes "run") (begins run_place) ∷
    line (codes "ext") (begins External) ∷
    line (codes "u") (takes unit (λ u. begins (UnitState u))) ∷
    line (codes "d") (takes unit (λ u. begins (UnitMedia u))) ∷
    []

-- ---- the lines

abbrev pub patches : List (Line Command)
patches =
    line (codes "s") (two address bytes_in (λ at bytes. Patch (bytes_patch at bytes))) ∷
    line (codes "r") (two register word_of (λ n word. Patch (register_patch n word))) ∷
    line (codes "k") (two address storage_key (λ at n. Patch (storage_key_patch at n))) ∷
    line (codes "f") (two address bit_of (λ at bit. Patch (fetch_patch at bit))) ∷
    line (codes "p") (one doubleword_of (λ q. Patch (psw_patch q))) ∷
    []

abbrev pub shows : List (Line Command)
shows =
    line (codes "regs") (makes (Show Registers)) ∷
    line (codes "psw") (makes (Show psw)) ∷
    line (codes "s") (two address (count_of most_shown) (λ at count. Show (Storage at count))) ∷
    line (codes "k") (one address (λ at. Show (StorageKey at))) ∷
    line (codes "ext") (makes (Show external)) ∷
    line (codes "u") (one unit (λ u. Show (unit_state u))) ∷
    line (codes "d") (one unit (λ u. Show (device u))) ∷
    line (codes "m") (two unit (count_of most_count) (λ u n. Show (item u n))) ∷
    line (codes "image") (one unit (λ u. Show (image u))) ∷
    []

-- the text is what follows the first word
abbrev pub commands : List ℕ → List (Line Command)
commands behind =
    line (codes "step") (makes Step) ∷
    line (codes "channel") (one unit (λ u. Channel u)) ∷
    line (codes "tick") (makes Tick) ∷
    line (codes "key") (one key_of (λ k. Key k)) ∷
    line (codes "enter") (text ebcdic_text behind (λ bytes. Key (Enter bytes))) ∷
    line (codes "load") (one unit (λ u. Key (Load u))) ∷
    line (codes "patch") (kind patches) ∷
    line (codes "run") (one (count_of most_count) (λ most. Run most)) ∷
    line (codes "back") (makes Back) ∷
    line (codes "until") (makes Until) ∷
    line (codes "withdraw") (one (count_of most_count) (λ n. Withdraw n)) ∷
    line (codes "break") (one address (λ at. Break at)) ∷
    line (codes "clear") (one address (λ at. Clear at)) ∷
    line (codes "standing") (makes Standing) ∷
    line (codes "last") (part places (λ place. makes (Last place))) ∷
    line (codes "show") (kind shows) ∷
    []

unfoldable pub reading_of : List ℕ → Reading
reading_of bytes = judged (commands (text_behind bytes)) bytes

-- the command holds bytes of its line, which want memory: a text that is entered, or bytes of storage
abbrev pub TakesMemory : Command → Type 0
TakesMemory (Key (Enter bytes)) = ⊤
TakesMemory (Patch (bytes_patch at bytes)) = ⊤
TakesMemory c = ⊥

-- what may answer a reading: the fault whatever memory there is; the command, or want of memory where it takes some
abbrev pub Reads : Reading → Reading → Type 0
Reads (Err f) result = result ≡ Err f
Reads (Ok c) result = (result ≡ Ok c) ⊎ (TakesMemory c × (result ≡ Err Memory))
