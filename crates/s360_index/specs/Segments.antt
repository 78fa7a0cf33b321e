-- The bytes of storage in segments: those of one were altered by the same changes (kept).
use Rattle.std.specs.Prelude.{◌≡◌, ◌<◌, ◌≤◌, ◌⊎◌, ℕ, Bool, true, false, ◌&&◌, if◌then◌else◌, nat_le, nat_lt}
use Rattle.std.specs.Prelude.{Option, Some, None, List, [], length, slice_get, slice_index_or}
use Rattle.s360_index.specs.Numbers.{MayGain, MayLose, with_number, without_number}
use Rattle.s360_index.specs.declared.segments.Segment.{Segment}
use Rattle.s360_index.specs.declared.segments.Segments.{Segments}

-- the index of the segment of a byte: that of the bytes that no change has altered is 0
abbrev pub label : Segments → ℕ → ℕ
label s a = slice_index_or s.labels.items a 0

-- the numbers of a segment, and of a byte
abbrev pub numbers_of_segment : Option Segment → List ℕ
numbers_of_segment None = []
numbers_of_segment (Some g) = g.numbers.items

abbrev pub numbers_at : Segments → ℕ → List ℕ
numbers_at s a = numbers_of_segment (slice_get s.segments.items (label s a))

-- a segment whose bytes follow each other
pub record IsSegment (s : Segments) (i : ℕ) (g : Segment) : Type 0 where
  pub some : g.start < g.end
  pub inside : g.end ≤ length s.labels.items
  pub has : (a : ℕ) → g.start ≤ a → a < g.end → label s a ≡ i
  pub all : (a : ℕ) → label s a ≡ i → (g.start ≤ a) × (a < g.end)

-- a segment of the same bytes with the same numbers
pub record IsSameSegment (g h : Segment) : Type 0 where
  pub start : h.start ≡ g.start
  pub end : h.end ≡ g.end
  pub numbers : h.numbers.items ≡ g.numbers.items

-- each byte is in one, no number is of the bytes that no change has altered, those of each other follow each other, and
-- there are no more bytes than a storage has
pub record AreSegments (s : Segments) : Type 0 where
  pub few : length s.labels.items ≤ 1048576
  pub labelled : (a : ℕ) → a < length s.labels.items → label s a < length s.segments.items
  pub unaltered : numbers_of_segment (slice_get s.segments.items 0) ≡ []
  pub whole : (i : ℕ) (g : Segment) → 0 < i → slice_get s.segments.items i ≡ Some g → IsSegment s i g

-- no segment goes on from before an address to behind it
abbrev pub IsCut : Segments → ℕ → Type 0
IsCut s at = (i : ℕ) (g : Segment) → 0 < i → slice_get s.segments.items i ≡ Some g → (at ≤ g.start) ⊎ (g.end ≤ at)

abbrev pub KeepsCuts : Segments → Segments → Type 0
KeepsCuts s t = (at : ℕ) → IsCut s at → IsCut t at

-- the byte is in the segment of this index, behind its first
abbrev pub IsInside : Segments → ℕ → ℕ → Type 0
IsInside s i at = (g : Segment) × (slice_get s.segments.items i ≡ Some g) × (g.start < at) × (at < g.end)

-- all bytes before an address have labels
abbrev pub Grown : Segments → ℕ → Type 0
Grown s end = end ≤ length s.labels.items

-- the numbers stay: of all bytes
abbrev pub KeepsNumbers : Segments → Segments → Type 0
KeepsNumbers s t = (a : ℕ) → numbers_at t a ≡ numbers_at s a

-- of those before an address, and of those from one on
abbrev pub KeepsNumbersBefore : ℕ → Segments → Segments → Type 0
KeepsNumbersBefore at s t = (a : ℕ) → a < at → numbers_at t a ≡ numbers_at s a

abbrev pub KeepsNumbersFrom : ℕ → Segments → Segments → Type 0
KeepsNumbersFrom at s t = (a : ℕ) → at ≤ a → numbers_at t a ≡ numbers_at s a

-- a byte is one of those from one on up to an end
abbrev pub is_between : ℕ → ℕ → ℕ → Bool
is_between start end a = nat_le start a && nat_lt a end

-- the bytes from one on up to an end have another label
pub record Relabelled (old new : List ℕ) (start end n : ℕ) : Type 0 where
  pub same_length : length new ≡ length old
  pub labels : (a : ℕ) → slice_index_or new a 0 ≡ (if is_between start end a then n else slice_index_or old a 0)

-- the bytes from one on up to an end have a number at their end, and all others are as before
abbrev pub Gained : ℕ → ℕ → ℕ → Segments → Segments → Type 0
Gained k start end s t = (a : ℕ) → numbers_at t a ≡ (if is_between start end a then with_number k (numbers_at s a) else numbers_at s a)

-- some of them have it, and all other bytes are as before
pub record GainedInPart (k start end : ℕ) (s t : Segments) : Type 0 where
  pub each : (a : ℕ) → MayGain k (numbers_at s a) (numbers_at t a)
  pub outside : (a : ℕ) → is_between start end a ≡ false → numbers_at t a ≡ numbers_at s a

-- the bytes from one on up to an end have a number no more at their end, and others may have lost it
pub record Lost (k start end : ℕ) (s t : Segments) : Type 0 where
  pub each : (a : ℕ) → MayLose k (numbers_at s a) (numbers_at t a)
  pub inside : (a : ℕ) → is_between start end a ≡ true → numbers_at t a ≡ without_number k (numbers_at s a)
