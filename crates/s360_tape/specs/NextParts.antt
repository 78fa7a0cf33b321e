-- How far a reading of a file has come, and the part with which it goes on (kept).
use Rattle.std.specs.Prelude.{◌≡◌, ◌≤◌, ◌<◌, ℕ, ◌+◌, Option, Some, None, is_some, List, [], ◌∷◌, ◌++◌, length, take, IfSome, slice_index}
use Rattle.std.specs.Option.{option_map, option_map_or}
use Rattle.s360_tape.specs.declared.item.TapeItem.{TapeItem}
use Rattle.s360_tape.specs.declared.item.TapeItem.TheVariants.{Block, Mark}
use Rattle.s360_tape.specs.declared.part_kind.PartKind.{PartKind}
use Rattle.s360_tape.specs.declared.part_kind.PartKind.TheVariants.{Whole, First, Middle, Last, Mark as mark_part}
use Rattle.s360_tape.specs.Blocks.{block_limit}
use Rattle.s360_tape.specs.Parts.{goes_inside, flags_of, header_length, flags_at, count_at, bytes_at}
use Rattle.s360_tape.specs.Images.{Begins}

-- the rest of the file goes on with a part of this kind, with these bytes, and it is in order where so many bytes of a
-- block came before
pub record IsNextPart (inside : Option ℕ) (rest : List ℕ) (kind : PartKind) (bytes : List ℕ) : Type 0 where
  pub flags : flags_at rest ≡ flags_of kind
  pub empty : kind ≡ mark_part → count_at rest ≡ 0
  pub place : goes_inside kind ≡ is_some inside
  pub stands : header_length + count_at rest ≤ length rest
  pub fits : option_map_or (λ n. n) inside 0 + count_at rest ≤ block_limit
  pub are : bytes ≡ bytes_at rest
  pub count : length bytes ≡ count_at rest
  pub low : slice_index rest 0 < 256

-- the bytes of the block so far, after a part more
abbrev pub so_far : Option (List ℕ) → List ℕ
so_far block = option_map_or (λ bytes. bytes) block []

-- the number of them after a part of so many bytes, inside of a block
abbrev pub count_after : Option ℕ → PartKind → ℕ → Option ℕ
count_after inside First count = Some count
count_after inside Middle count = Some (option_map_or (λ n. n) inside 0 + count)
count_after inside kind count = None

abbrev pub block_after : Option (List ℕ) → PartKind → List ℕ → Option (List ℕ)
block_after block First bytes = Some bytes
block_after block Middle bytes = Some (so_far block ++ bytes)
block_after block kind bytes = None

-- the items after a part more, where these are the bytes of the block so far
abbrev pub items_after : List TapeItem → List ℕ → PartKind → List ℕ → List TapeItem
items_after items block Whole bytes = items ++ Block (block ++ bytes) ∷ []
items_after items block Last bytes = items ++ Block (block ++ bytes) ∷ []
items_after items block mark_part bytes = items ++ Mark ∷ []
items_after items block kind bytes = items

-- the bytes that are kept of the block after a part more
abbrev pub kept_after : List ℕ → PartKind → List ℕ → List ℕ
kept_after block First bytes = block ++ bytes
kept_after block Middle bytes = block ++ bytes
kept_after block mark_part bytes = block
kept_after block kind bytes = []

-- up to a place the file begins as a tape's, with so many bytes of a block of which more parts are to come
pub record IsScanned (file : List ℕ) (place : ℕ) (inside : Option ℕ) : Type 0 where
  pub within : place ≤ length file
  pub short : IfSome inside (λ count. count ≤ block_limit)
  pub items : List TapeItem
  pub block : Option (List ℕ)
  pub begins : Begins (take place file) items block
  pub counts : option_map length block ≡ inside

-- and these are the items and the bytes
pub record IsTaken (file : List ℕ) (place : ℕ) (inside : Option ℕ) (items : List TapeItem) (bytes : List ℕ) : Type 0 where
  pub within : place ≤ length file
  pub short : IfSome inside (λ count. count ≤ block_limit)
  pub block : Option (List ℕ)
  pub begins : Begins (take place file) items block
  pub counts : option_map length block ≡ inside
  pub holds : bytes ≡ so_far block
