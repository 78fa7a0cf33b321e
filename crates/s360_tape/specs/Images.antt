-- AWSTAPE files, and the first fault of a file that is none (own profile).
use Rattle.std.specs.Prelude.{◌≡◌, ◌≤◌, ◌⊎◌, ℕ, ◌+◌, ◌/◌, ◌%◌, Bool, false, ◌&&◌, ◌||◌, not, if◌then◌else◌, nat_eq, nat_lt}
use Rattle.std.specs.Prelude.{Option, Some, None, is_some, is_none, List, [], ◌∷◌, ◌++◌, length}
use Rattle.std.specs.Bool.{beq}
use Rattle.std.specs.Option.{option_map, option_map_or}
use Rattle.s360_model.specs.Tables.{entry_in}
use Rattle.s360_tape.specs.declared.fault.TapeFault.{TapeFault}
use Rattle.s360_tape.specs.declared.fault.TapeFault.TheVariants.{ShortHeader, BadFlags, PartOutOfPlace, ShortBlock, BlockTooLong, Memory}
use Rattle.s360_tape.specs.declared.item.TapeItem.{TapeItem}
use Rattle.s360_tape.specs.declared.item.TapeItem.TheVariants.{Block, Mark}
use Rattle.s360_tape.specs.Blocks.{block_limit}
use Rattle.s360_tape.specs.Items.{bytes_of, is_mark}
use Rattle.s360_tape.specs.Parts.{Unchecked, part, part_flags, goes_inside, header_length, flags_at, count_at}

-- A file may begin with these bytes: then it begins with these items, and after them with the bytes of a block of
-- which more parts are to come, or with none such.
pub data Begins : List ℕ → List TapeItem → Option (List ℕ) → Type 0 where
  nothing : Begins [] [] None
  mark : (file : List ℕ) (items : List TapeItem) (free : Unchecked) → Begins file items None
      → Begins (file ++ part 0x40 [] free) (items ++ Mark ∷ []) None
  whole_block : (file : List ℕ) (items : List TapeItem) (bytes : List ℕ) (free : Unchecked) → Begins file items None
      → length bytes ≤ block_limit
      → Begins (file ++ part 0xA0 bytes free) (items ++ Block bytes ∷ []) None
  first_part : (file : List ℕ) (items : List TapeItem) (bytes : List ℕ) (free : Unchecked) → Begins file items None
      → length bytes ≤ block_limit
      → Begins (file ++ part 0x80 bytes free) items (Some bytes)
  middle_part : (file : List ℕ) (items : List TapeItem) (block bytes : List ℕ) (free : Unchecked) → Begins file items (Some block)
      → length (block ++ bytes) ≤ block_limit
      → Begins (file ++ part 0x00 bytes free) items (Some (block ++ bytes))
  last_part : (file : List ℕ) (items : List TapeItem) (block bytes : List ℕ) (free : Unchecked) → Begins file items (Some block)
      → length (block ++ bytes) ≤ block_limit
      → Begins (file ++ part 0x20 bytes free) (items ++ Block (block ++ bytes) ∷ []) None

-- the file is that of a tape with these items
abbrev pub IsTapeFile : List ℕ → List TapeItem → Type 0
IsTapeFile file items = Begins file items None

-- the file is that of a tape
pub record IsSomeTapeFile (file : List ℕ) : Type 0 where
  pub items : List TapeItem
  pub is : IsTapeFile file items

-- the fault of the first check that fails
abbrev pub first_of : List (Bool × TapeFault) → Option TapeFault
first_of [] = None
first_of (check ∷ checks) = if check.0 then Some check.1 else first_of checks

-- there are no such flags, or a mark has bytes
abbrev pub has_bad_flags : List ℕ → Bool
has_bad_flags rest = is_none (entry_in part_flags (flags_at rest)) || (nat_eq (flags_at rest) 0x40 && not (nat_eq (count_at rest) 0))

-- a part with these flags would be out of its place
abbrev pub out_of_place : Bool → ℕ → Bool
out_of_place inside flags = option_map_or (λ kind. not (beq (goes_inside kind) inside)) (entry_in part_flags flags) false

-- the fault at a header, by the checks in their order, where this is the rest of the file and so many bytes of a block
-- came before, or none where it is outside of a block
abbrev pub fault_at : Option ℕ → ℕ → List ℕ → Option TapeFault
fault_at None offset [] = None
fault_at (Some count) offset [] = Some (PartOutOfPlace offset)
fault_at inside offset rest = first_of (
    (nat_lt (length rest) header_length, ShortHeader offset)
    ∷ (has_bad_flags rest, BadFlags offset)
    ∷ (out_of_place (is_some inside) (flags_at rest), PartOutOfPlace offset)
    ∷ (nat_lt (length rest) (header_length + count_at rest), ShortBlock offset)
    ∷ (nat_lt block_limit (option_map_or (λ count. count) inside 0 + count_at rest), BlockTooLong offset)
    ∷ [])

-- the file has this fault: it begins as a tape's up to a header, and there this check is the first that fails
pub record HasFault (file : List ℕ) (fault : TapeFault) : Type 0 where
  pub before : List ℕ
  pub rest : List ℕ
  pub joined : before ++ rest ≡ file
  pub items : List TapeItem
  pub block : Option (List ℕ)
  pub begins : Begins before items block
  pub is_first : fault_at (option_map length block) (length before) rest ≡ Some fault

-- why a file is refused: it has the fault, or memory is wanting, which is said only of a tape's file
abbrev pub IsRefusal : List ℕ → TapeFault → Type 0
IsRefusal file fault = HasFault file fault ⊎ ((fault ≡ Memory) × IsSomeTapeFile file)

-- an item in the file of items, after one of so many bytes: a whole block or a mark, with 0 in the last byte
abbrev pub item_file : ℕ → TapeItem → List ℕ
item_file previous item = part
    (if is_mark item then 0x40 else 0xA0)
    (bytes_of item)
    (record { previous_low = previous % 256; previous_high = previous / 256; last = 0 })

-- items after one of so many bytes, of which there are none before the first
abbrev pub items_file : ℕ → List TapeItem → List ℕ
items_file previous [] = []
items_file previous (item ∷ items) = item_file previous item ++ items_file (length (bytes_of item)) items

-- the file of items
abbrev pub tape_file : List TapeItem → List ℕ
tape_file items = items_file 0 items
