-- The parts of an AWSTAPE file (own profile, after the format that is in common use). A part is a header of six bytes
-- and its bytes. The header has the number of bytes in two bytes, the low one first; the number of bytes of the part
-- before likewise, which is not checked; flags; and a byte that is not checked.
use Rattle.std.specs.Prelude.{ℕ, ◌+◌, ◌*◌, ◌/◌, ◌%◌, Bool, true, false, List, [], ◌∷◌, length, take, drop, slice_index}
use Rattle.s360_tape.specs.declared.part_kind.PartKind.{PartKind}
use Rattle.s360_tape.specs.declared.part_kind.PartKind.TheVariants.{Whole, First, Middle, Last, Mark}

-- the flags of a whole block, the first part of a block, a middle part, the last part, and a mark
abbrev pub part_flags : List (ℕ × PartKind)
part_flags = (0xA0, Whole) ∷ (0x80, First) ∷ (0x00, Middle) ∷ (0x20, Last) ∷ (0x40, Mark) ∷ []

abbrev pub flags_of : PartKind → ℕ
flags_of Whole = 0xA0
flags_of First = 0x80
flags_of Middle = 0x00
flags_of Last = 0x20
flags_of Mark = 0x40

-- a middle or last part has its place inside a block, any other outside of one
abbrev pub goes_inside : PartKind → Bool
goes_inside Middle = true
goes_inside Last = true
goes_inside kind = false

-- what is not checked of a header
pub record Unchecked : Type 0 where
  pub previous_low : ℕ
  pub previous_high : ℕ
  pub last : ℕ

-- a part with these flags and bytes
abbrev pub part : ℕ → List ℕ → Unchecked → List ℕ
part flags bytes free = length bytes % 256 ∷ length bytes / 256 ∷ free.previous_low ∷ free.previous_high ∷ flags ∷ free.last ∷ bytes

-- bytes of a header
abbrev pub header_length : ℕ
header_length = 6

-- of the part with which a file goes on: its flags, the number of its bytes, and its bytes
abbrev pub flags_at : List ℕ → ℕ
flags_at rest = slice_index rest 4

abbrev pub count_at : List ℕ → ℕ
count_at rest = slice_index rest 0 + 256 * slice_index rest 1

abbrev pub bytes_at : List ℕ → List ℕ
bytes_at rest = take (count_at rest) (drop header_length rest)
