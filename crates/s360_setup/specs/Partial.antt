-- Texts of which a writer takes a first part.
use Rattle.std.specs.Prelude.{◌≡◌, ℕ, List, ◌++◌, Option}
use Rattle.std.specs.Io.KnownBytes.{Appends}

-- a first part of the text is written: all of it, or what stands before a place in it
pub record IsBegun (old new : Option (List ℕ)) (text : List ℕ) : Type 0 where
  pub done : List ℕ
  pub left : List ℕ
  pub split : text ≡ done ++ left
  pub written : Appends old new done
