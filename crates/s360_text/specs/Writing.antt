-- Texts of which a writer took only a beginning.
use Rattle.std.specs.Prelude.{ℕ, ◌<◌, Option, List, length, take}
use Rattle.std.specs.Io.KnownBytes.{Appends}

-- of a text the first bytes, fewer than it has, are written
pub record IsPartWritten (old new : Option (List ℕ)) (text : List ℕ) : Type 0 where
  pub count : ℕ
  pub short : count < length text
  pub written : Appends old new (take count text)
