use Rattle.std.proofs.Common.{◌≡◌, ◌<◌, ℕ, List, [], ◌∷◌, Some, length, refl, arith, slice_get}
use Rattle.s360_store.specs.Cells.{byte_cells, places_of_cells}
use Rattle.s360_store.specs.declared.place.Place.TheVariants.{Byte}
use Rattle.s360_store.proofs.items.CellPart.first.Goals as goal

first-byte : (a : ℕ) (bs : List ℕ) → 0 < length (byte_cells a bs) → slice_get (places_of_cells (byte_cells a bs)) 0 ≡ Some (Byte a)
first-byte a [] l = absurd (omega (arith, l))
first-byte a (b ∷ bs) l = refl

pub returns-in-Bytes : goal.returns-in-Bytes
returns-in-Bytes c = rw c.in-Bytes.is (first-byte c.in-Bytes.address c.in-Bytes.field-1.now (rw c.in-Bytes.is at c.requires))
