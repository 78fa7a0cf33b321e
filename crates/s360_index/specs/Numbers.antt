-- Lists of numbers of changes (kept).
use Rattle.std.specs.Prelude.{◌≡◌, ◌-◌, ◌++◌, ◌⊎◌, ℕ, Bool, false, nat_eq, if◌then◌else◌, Option, Some, None, List, [], ◌∷◌, length, slice_get, take}

-- the number is there, and it is this one
abbrev pub is_number : Option ℕ → ℕ → Bool
is_number None k = false
is_number (Some n) k = nat_eq n k

abbrev pub ends_with : List ℕ → ℕ → Bool
ends_with ns k = is_number (slice_get ns (length ns - 1)) k

-- with a number at their end
abbrev pub with_number : ℕ → List ℕ → List ℕ
with_number k ns = if ends_with ns k then ns else ns ++ k ∷ []

-- without it there
abbrev pub without_number : ℕ → List ℕ → List ℕ
without_number k ns = if ends_with ns k then take (length ns - 1) ns else ns

-- they are as before, or have the number at their end
abbrev pub MayGain : ℕ → List ℕ → List ℕ → Type 0
MayGain k old new = (new ≡ old) ⊎ (new ≡ with_number k old)

-- they are as before, or have it no more
abbrev pub MayLose : ℕ → List ℕ → List ℕ → Type 0
MayLose k old new = (new ≡ old) ⊎ (new ≡ without_number k old)
