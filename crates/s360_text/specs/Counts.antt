-- Counts with their names (own profile).
use Rattle.std.specs.Prelude.{ℕ, List, ◌++◌}
use Rattle.s360_model.specs.Text.{decimal}

-- a count behind its name
unfoldable pub counted : List ℕ → ℕ → List ℕ
counted name count = name ++ decimal count
