-- The places at which two cores of one size differ, in their order.
use Rattle.std.specs.Prelude.{◌≡◌, List, ◌∷◌, ◌++◌, length, map, nat_eq, not}
use Rattle.std.specs.List.{filter, range_with_len}
use Rattle.s360_model.specs.Core.{Core}
use Rattle.s360_store.specs.declared.place.Place.{Place}
use Rattle.s360_store.specs.declared.place.Place.TheVariants.{Psw, Register, Byte, Key}
use Rattle.s360_store.specs.declared.place.Cell.{Cell}
use Rattle.s360_store.specs.Places.{value_at}
use Rattle.s360_store.specs.Cells.{after_exchange, AllDiffer, AreCellsOf, IsFresh, places_of_cells}

-- the places of a core, in their order
abbrev pub places_of : Core → List Place
places_of m =
    Psw ∷ (map (λ n. Register n) (range_with_len 0 (length m.registers))
    ++ (map (λ a. Byte a) (range_with_len 0 (length m.storage.bytes))
    ++ map (λ b. Key b) (range_with_len 0 (length m.storage.keys))))

-- the places at which the second core has another value
abbrev pub core_differences : Core → Core → List Place
core_differences m n = filter (λ p. not (nat_eq (value_at m p) (value_at n p))) (places_of m)

-- the cells kept make the same core as the plan, alter their places, and have no other places
pub record AreKept (m : Core) (plan kept : List Cell) : Type 0 where
  pub cells : AreCellsOf m kept
  pub makes : after_exchange m kept ≡ after_exchange m plan
  pub among : (p : Place) → IsFresh p plan → IsFresh p kept
  pub alter : AllDiffer m kept

-- what is kept of a plan becomes what is kept of the plan with more cells
abbrev pub KeepsAltering : Core → List Cell → List Cell → List Cell → Type 0
KeepsAltering m more old new = (plan : List Cell) → AreCellsOf m (plan ++ more) → AreKept m plan old → AreKept m (plan ++ more) new

-- the cells make the second core of the first, and have just the places at which the two differ
pub record IsCoreChangeTo (m : Core) (cs : List Cell) (n : Core) : Type 0 where
  pub cells : AreCellsOf m cs
  pub makes : after_exchange m cs ≡ n
  pub lists : places_of_cells cs ≡ core_differences m n
