-- Spans of places.
use Rattle.std.proofs.Common.{◌≡◌, ◌<◌, ◌≤◌, ◌+◌, ◌∙◌, ℕ, zero, suc, Some, List, [], ◌∷◌, refl, ap, sym, take, length, arith, add-zero, slice_get, length-take-le}
use Rattle.s360_store.specs.declared.place.Place.{Place}
use Rattle.s360_store.specs.declared.place.Place.TheVariants.{Byte}
use Rattle.s360_store.specs.Cells.{byte_cells, places_of_cells}
use Rattle.s360_store.specs.Spans.{byte_places}

pub length-byte_places : (a n : ℕ) → length (byte_places a n) ≡ n
length-byte_places a zero = refl
length-byte_places a (suc n) = ap suc (length-byte_places (a + 1) n)

pub byte_places-get : (a n i : ℕ) → i < n → slice_get (byte_places a n) i ≡ Some (Byte (a + i))
byte_places-get a zero i l = absurd (omega (arith, l))
byte_places-get a (suc n) zero l = rw add-zero refl
byte_places-get a (suc n) (suc i) l = let sum : a + 1 + i ≡ a + suc i = omega arith in rw sum at (byte_places-get (a + 1) n i (omega (arith, l)))

-- the places of the cells of bytes
pub places-of-bytes : (a : ℕ) (bs : List ℕ) → places_of_cells (byte_cells a bs) ≡ byte_places a (length bs)
places-of-bytes a [] = refl
places-of-bytes a (b ∷ bs) = ap (λ (ps : List Place). Byte a ∷ ps) (places-of-bytes (a + 1) bs)

pub places-of-run : (a n : ℕ) (bs : List ℕ) → n ≤ length bs → byte_places a n ≡ places_of_cells (byte_cells a (take n bs))
places-of-run a n bs l = sym (places-of-bytes a (take n bs) ∙ ap (byte_places a) (length-take-le n bs l))
