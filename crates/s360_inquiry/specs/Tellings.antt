-- Lines that are told, so many at most (own profile).
use Rattle.std.specs.Prelude.{◌≡◌, ℕ, ◌+◌, nat_lt, if◌then◌else◌, List, [], ◌++◌, codes, flat_map, length, min, take}
use Rattle.s360_inquiry.specs.declared.telling.Telling.{Telling}

-- so many lines are told at most
abbrev pub most_lines : ℕ
most_lines = 1000

abbrev pub first_lines : List (List ℕ) → List ℕ
first_lines lines = flat_map (λ line. line) (take most_lines lines)

abbrev pub told_lines : List (List ℕ) → List ℕ
told_lines lines = first_lines lines ++ (if nat_lt most_lines (length lines) then codes "and more\n" else [])

-- lines that are told so far, and how many there are, of which one beyond is the last that is counted
pub record IsTold (lines : List (List ℕ)) (t : Telling) : Type 0 where
  pub text : t.text ≡ first_lines lines
  pub count : t.lines ≡ min (length lines) (most_lines + 1)
