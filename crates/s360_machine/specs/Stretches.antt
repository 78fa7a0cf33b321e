-- Stretches of successive bytes of storage among places in their order (kept).
use Rattle.std.specs.Prelude.{◌+◌, ℕ, Bool, false, nat_eq, if◌then◌else◌, Option, Some, None, List, [], ◌∷◌}
use Rattle.s360_store.specs.declared.items.Item.{Item}
use Rattle.s360_store.specs.declared.items.Item.TheVariants.{Single, Run}
use Rattle.s360_store.specs.declared.place.Place.{Place}
use Rattle.s360_store.specs.declared.place.Place.TheVariants.{Byte}

-- how many maximal stretches of successive bytes there are among places in their order, the last of which so far goes on at an
-- address, if it does
abbrev pub goes_on : Option ℕ → ℕ → Bool
goes_on None a = false
goes_on (Some b) a = nat_eq b a

abbrev pub stretches : Option ℕ → List Place → ℕ
stretches next [] = 0
stretches next (Byte a ∷ ps) = (if goes_on next a then 0 else 1) + stretches (Some (a + 1)) ps
stretches next (p ∷ ps) = stretches None ps

-- how many stretches a single cell or a run begins behind others, and where a stretch would go on behind it
abbrev pub begun_by : Option ℕ → Item → ℕ
begun_by next (Single c) = 0
begun_by next (Run address count) = if goes_on next address then 0 else 1

abbrev pub next_after : Item → Option ℕ
next_after (Single c) = None
next_after (Run address count) = Some (address + count)
