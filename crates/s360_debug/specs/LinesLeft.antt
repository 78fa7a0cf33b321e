-- The lines of what is left of a script.
use Rattle.std.specs.Prelude.{ℕ, Option, Some, None, List, []}
use Rattle.s360_debug.specs.Lines.{lines_of}

abbrev pub lines_left : Option (List ℕ) → List (List ℕ)
lines_left None = []
lines_left (Some text) = lines_of text
