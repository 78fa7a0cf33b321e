-- Bytes that differ from those that stand there, run by run (kept).
use Rattle.std.specs.Prelude.{◌≡◌, ◌≢◌, ◌<◌, ◌≤◌, ℕ, List, length, slice_index}

-- from a place on the bytes are the same up to this one, at which they differ, or up to the end of all
pub record IsFirstOther (stored new : List ℕ) (from start : ℕ) : Type 0 where
  pub order : from ≤ start
  pub within : start ≤ length new
  pub before : (i : ℕ) → from ≤ i → i < start → slice_index stored i ≡ slice_index new i
  pub other : start < length new → slice_index stored start ≢ slice_index new start

-- from a place on the next bytes that differ are these, up to one that does not or the end of all
pub record IsNextRun (stored new : List ℕ) (from start end : ℕ) : Type 0 where
  pub order : from ≤ start
  pub begun : start ≤ end
  pub within : end ≤ length new
  pub before : (i : ℕ) → from ≤ i → i < start → slice_index stored i ≡ slice_index new i
  pub inside : (i : ℕ) → start ≤ i → i < end → slice_index stored i ≢ slice_index new i
  pub some : start < length new → start < end
  pub behind : end < length new → slice_index stored end ≡ slice_index new end
