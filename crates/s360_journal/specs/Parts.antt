-- A list in two parts: the items that stand, the newest first, and those that come next (kept).
use Rattle.std.specs.Prelude.{ℕ, ◌-◌, List, length}

-- the parts, and how many items there is memory for
pub record Parts (T : Type 0) : Type 0 where
  pub past : List T
  pub next : List T
  pub room : ℕ

-- for so many items more there is memory, where what comes next is dropped
abbrev pub spare_of : {T : Type 0} → Parts T → ℕ
spare_of parts = parts.room - length parts.past
