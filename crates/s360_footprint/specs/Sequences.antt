-- One row after another, by how the first ended, as one row: what the second reads is followed back through the stores of the first (ours).
use Rattle.std.specs.Prelude.{List, [], ◌∷◌, ◌++◌, flat_map}
use Rattle.s360_store.specs.declared.place.Place.{Place}
use Rattle.s360_machine.specs.Machine.{Machine}
use Rattle.s360_footprint.specs.Readings.{Reading, bind, done, places_read, read, run}
use Rattle.s360_footprint.specs.Rows.{Made, Row, Store, deciders, value_after}

-- a reading of the machine after stores as one of the machine before
abbrev pub through : {X : Type 0} → List Store → Reading X → Reading X
through ss (done x) = done x
through ss (read p next) = bind (value_after ss p) (λ v. through ss (next v))

abbrev pub stores_through : List Store → List Store → List Store
stores_through ss [] = []
stores_through ss (t ∷ ts) = record { place = t.place; value = through ss t.value } ∷ stores_through ss ts

abbrev pub made_through : {Ending : Type 0} → List Store → Made Ending → Made Ending
made_through ss made = record { ended = made.ended; stores = ss ++ stores_through ss made.stores }

abbrev pub row_through : {Ending : Type 0} → List Store → Row Ending → Row Ending
row_through ss row = bind (through ss row) (λ made. done (made_through ss made))

abbrev pub sequence : {First Ending : Type 0} → Row First → (First → Row Ending) → Row Ending
sequence first second = bind first (λ made. row_through made.stores (second made.ended))

-- all places that a row reads: its deciders, and what its values are made of
abbrev pub all_read : {Ending : Type 0} → Row Ending → Machine → List Place
all_read row m = deciders row m ++ flat_map (λ (s : Store). places_read s.value m) (run row m).stores
