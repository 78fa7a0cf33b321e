-- What stands on a tape: blocks of bytes and tape marks (GA22-6866, "2400-Series Magnetic Tape Units").
use Rattle.std.specs.Prelude.{ℕ, zero, suc, ◌+◌, Bool, true, false, if◌then◌else◌, Option, Some, None, List, [], ◌∷◌, slice_get}
use Rattle.std.specs.Option.{option_map_or}
use Rattle.s360_tape.specs.declared.item.TapeItem.{TapeItem}
use Rattle.s360_tape.specs.declared.item.TapeItem.TheVariants.{Block, Mark}

-- the bytes of an item: a mark has none
abbrev pub bytes_of : TapeItem → List ℕ
bytes_of (Block bytes) = bytes
bytes_of Mark = []

abbrev pub is_mark : TapeItem → Bool
is_mark (Block bytes) = false
is_mark Mark = true

-- there is a mark after so many items
abbrev pub has_mark_after : List TapeItem → ℕ → Bool
has_mark_after items count = option_map_or is_mark (slice_get items count) false

-- the place just after the first mark of these items, of which the first stands at a place
abbrev pub after_mark : ℕ → List TapeItem → Option ℕ
after_mark place [] = None
after_mark place (item ∷ items) = if is_mark item then Some (place + 1) else after_mark (place + 1) items

-- the place just before the mark that is nearest before a position, or 0 where there is none
abbrev pub before_mark : List TapeItem → ℕ → ℕ
before_mark items zero = 0
before_mark items (suc place) = if has_mark_after items place then place else before_mark items place
