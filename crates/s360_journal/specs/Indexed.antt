-- The changes that alter a place, by their numbers (kept).
use Rattle.std.specs.Prelude.{◌≡◌, ◌+◌, ℕ, if◌then◌else◌, List, [], ◌∷◌, length, MatchBool}
use Rattle.s360_store.specs.declared.place.Place.{Place}
use Rattle.s360_index.specs.Histories.{Histories, numbers}
use Rattle.s360_index.specs.Numbers.{MayGain}
use Rattle.s360_machine.specs.Change.{Change}
use Rattle.s360_machine.specs.Packed.{change_alters}

-- those of changes that are numbered from this one on
abbrev pub altering_from : ℕ → List Change → Place → List ℕ
altering_from k [] p = []
altering_from k (x ∷ xs) p = if change_alters x p then k ∷ altering_from (k + 1) xs p else altering_from (k + 1) xs p

-- changes are numbered from 1
abbrev pub altering : List Change → Place → List ℕ
altering xs p = altering_from 1 xs p

-- an index has just these for each place
abbrev pub IsIndexOf : Histories → List Change → Type 0
IsIndexOf h xs = (p : Place) → numbers h p ≡ altering xs p

-- and perhaps, for some places of one change more, its number
abbrev pub MayIndex : Histories → List Change → Change → Type 0
MayIndex h xs x = (p : Place) → MatchBool (change_alters x p) (MayGain (length xs + 1) (altering xs p) (numbers h p)) (numbers h p ≡ altering xs p)
