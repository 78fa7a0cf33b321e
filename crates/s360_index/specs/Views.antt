-- What the parts of an index are seen as (kept).
use Rattle.std.specs.Prelude.{ℕ, List, Vec, map, slice_get}
use Rattle.std.specs.BTreeMap.{BTreeMap}
use Rattle.s360_store.specs.declared.place.Place.{Place}
use Rattle.s360_index.specs.declared.segments.Segments.{Segments}
use Rattle.s360_index.specs.Segments.{numbers_of_segment}

-- the numbers of each byte
abbrev pub byte_numbers : Segments → List (List ℕ)
byte_numbers s = map (λ l. numbers_of_segment (slice_get s.segments.items l)) s.labels.items

-- those of each place in a map
abbrev pub other_numbers : {A : Type 0} → BTreeMap Place (Vec ℕ A) → List (Place × List ℕ)
other_numbers m = map (λ e. (e.0, e.1.items)) m.entries
