-- Cells, each a place with a value, exchanged with a core one after another: the core gets their values,
-- and they get what stood at their places (kept).
use Rattle.std.specs.Prelude.{◌≢◌, ◌+◌, ℕ, Bool, List, [], ◌∷◌, map}
use Rattle.s360_model.specs.Core.{Core}
use Rattle.s360_store.specs.declared.place.Place.{Place}
use Rattle.s360_store.specs.declared.place.Place.TheVariants.{Byte}
use Rattle.s360_store.specs.declared.place.Cell.{Cell}
use Rattle.s360_store.specs.Places.{IsPlaceOf, Fits, value_at, with_value}

-- the places of cells
abbrev pub places_of_cells : List Cell → List Place
places_of_cells cs = map (λ (c : Cell). c.place) cs

-- the cells of bytes from an address on
abbrev pub byte_cells : ℕ → List ℕ → List Cell
byte_cells address [] = []
byte_cells address (b ∷ bs) = record { place = Byte address; value = b } ∷ byte_cells (address + 1) bs

-- the core after the exchange
abbrev pub after_exchange : Core → List Cell → Core
after_exchange m [] = m
after_exchange m (c ∷ cs) = after_exchange (with_value m c.place c.value) cs

-- the cells after the exchange
abbrev pub cells_after_exchange : Core → List Cell → List Cell
cells_after_exchange m [] = []
cells_after_exchange m (c ∷ cs) = record { place = c.place; value = value_at m c.place } ∷ cells_after_exchange (with_value m c.place c.value) cs

-- no cell has the place
abbrev pub IsFresh : Place → List Cell → Type 0
IsFresh p [] = Unit {0}
IsFresh p (c ∷ cs) = (p ≢ c.place) × IsFresh p cs

-- no place comes twice
abbrev pub HasEachOnce : List Cell → Type 0
HasEachOnce [] = Unit {0}
HasEachOnce (c ∷ cs) = IsFresh c.place cs × HasEachOnce cs

-- the cells can be exchanged: each is of a place of the core, with a value that fits it, and no place
-- comes twice
abbrev pub AreCellsOf : Core → List Cell → Type 0
AreCellsOf m [] = Unit {0}
AreCellsOf m (c ∷ cs) = IsPlaceOf m c.place × Fits m.storage.fetch_protection c.place c.value × IsFresh c.place cs × AreCellsOf m cs

-- each cell's value fits its place, where fetches are protected or are not
abbrev pub AllFit : Bool → List Cell → Type 0
AllFit fetch_protection [] = Unit {0}
AllFit fetch_protection (c ∷ cs) = Fits fetch_protection c.place c.value × AllFit fetch_protection cs

-- each cell's value is another than the core has
abbrev pub AllDiffer : Core → List Cell → Type 0
AllDiffer m [] = Unit {0}
AllDiffer m (c ∷ cs) = (value_at m c.place ≢ c.value) × AllDiffer m cs
