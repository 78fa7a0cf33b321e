-- Numbers of changes that something holds of (own profile). Changes are numbered from 1.
use Rattle.std.specs.Prelude.{◌≡◌, ℕ, zero, suc, Bool, false, if◌then◌else◌, Option, Some, None, List, [], ◌∷◌, ◌++◌}
use Rattle.s360_journal.specs.Rerun.{or_else}

-- the numbers up to one that something holds of, ascending; and of them those behind the last one at which the search ends
abbrev pub numbers_since : (ℕ → Bool) → (ℕ → Bool) → ℕ → List ℕ
numbers_since ends holds zero = []
numbers_since ends holds (suc n) = if ends (suc n) then [] else numbers_since ends holds n ++ (if holds (suc n) then suc n ∷ [] else [])

abbrev pub never : ℕ → Bool
never n = false

abbrev pub numbers_up_to : (ℕ → Bool) → ℕ → List ℕ
numbers_up_to holds n = numbers_since never holds n

-- the greatest of them
abbrev pub last_up_to : (ℕ → Bool) → ℕ → Option ℕ
last_up_to holds zero = None
last_up_to holds (suc n) = if holds (suc n) then Some (suc n) else last_up_to holds n

-- the greatest up to a number is this one, or else the greatest up to a lower number
abbrev pub IsLastFrom : (ℕ → Bool) → ℕ → ℕ → Option ℕ → Type 0
IsLastFrom holds least n last = or_else last (last_up_to holds least) ≡ last_up_to holds n
