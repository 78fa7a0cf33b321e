-- Items that are told in a line as far as it has room (own profile).
use Rattle.std.specs.Prelude.{ℕ, ◌+◌, nat_lt, if◌then◌else◌, List, [], ◌∷◌, ◌++◌, codes, length}
use Rattle.s360_text.specs.Counts.{counted}

-- so many columns has a line
abbrev pub columns : ℕ
columns = 120

-- those that have no room are counted
abbrev pub more_words : List (List ℕ) → List ℕ
more_words [] = []
more_words (item ∷ items) = counted (codes " and ") (length (item ∷ items)) ++ codes " more"

-- an item is told behind so many columns if it fits there with the number of those behind it
abbrev pub fitted : ℕ → List (List ℕ) → List ℕ
fitted used [] = []
fitted used (item ∷ items) =
    if nat_lt columns (used + length item + length (more_words items)) then more_words (item ∷ items)
    else item ++ fitted (used + length item) items
