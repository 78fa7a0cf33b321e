-- For each place, the numbers of the changes that altered it (kept).
use Rattle.std.specs.Prelude.{◌≡◌, ℕ, true, false, if◌then◌else◌, Option, Some, None, List, [], ◌∷◌, slice_get, slice_index_or}
use Rattle.s360_store.specs.declared.place.Place.{Place}
use Rattle.s360_store.specs.declared.place.Place.TheVariants.{Psw, Register, Byte}
use Rattle.s360_store.specs.Places.{is_among, same_place}
use Rattle.s360_index.specs.Numbers.{MayGain, MayLose, with_number, without_number}

-- of the PSW, of the registers by their numbers, of the bytes of storage by their addresses, and of other places
pub record Histories : Type 0 where
  pub psw : List ℕ
  pub registers : List (List ℕ)
  pub bytes : List (List ℕ)
  pub others : List (Place × List ℕ)

-- of a place among others
abbrev pub numbers_among : List (Place × List ℕ) → Place → List ℕ
numbers_among [] p = []
numbers_among (e ∷ es) p = if same_place e.0 p then e.1 else numbers_among es p

abbrev pub numbers_or : Option (List ℕ) → List ℕ → List ℕ
numbers_or (Some ns) other = ns
numbers_or None other = other

-- of a place
abbrev pub numbers : Histories → Place → List ℕ
numbers h Psw = h.psw
numbers h (Register n) = numbers_or (slice_get h.registers n) (numbers_among h.others (Register n))
numbers h (Byte a) = slice_index_or h.bytes a []
numbers h p = numbers_among h.others p

-- of other places, one has its numbers changed so, and all others are as before
abbrev pub ChangesAmong : (List ℕ → List ℕ) → Place → List (Place × List ℕ) → List (Place × List ℕ) → Type 0
ChangesAmong change p old new =
    (q : Place) → numbers_among new q ≡ (if same_place p q then change (numbers_among old q) else numbers_among old q)

-- places have a number at their end, and all others are as before
abbrev pub Gains : ℕ → List Place → Histories → Histories → Type 0
Gains k ps g h = (p : Place) → numbers h p ≡ (if is_among ps p then with_number k (numbers g p) else numbers g p)

-- some of them have it, and all others are as before
pub record GainsInPart (k : ℕ) (ps : List Place) (g h : Histories) : Type 0 where
  pub each : (p : Place) → MayGain k (numbers g p) (numbers h p)
  pub outside : (p : Place) → is_among ps p ≡ false → numbers h p ≡ numbers g p

-- places have a number no more at their end, and others may have lost it
pub record Loses (k : ℕ) (ps : List Place) (g h : Histories) : Type 0 where
  pub each : (p : Place) → MayLose k (numbers g p) (numbers h p)
  pub inside : (p : Place) → is_among ps p ≡ true → numbers h p ≡ without_number k (numbers g p)
