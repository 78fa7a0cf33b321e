-- Items by their numbers, as a person counts them.
use Rattle.std.specs.Prelude.{ℕ, zero, suc, Option, None, List, slice_get}

-- the item of a number, from 1
abbrev pub item_in : {T : Type 0} → List T → ℕ → Option T
item_in items zero = None
item_in items (suc i) = slice_get items i
