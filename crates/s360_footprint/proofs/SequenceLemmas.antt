-- One row after another.
use Rattle.std.proofs.Common.{◌≡◌, ◌∙◌, ◌++◌, List, [], ◌∷◌, refl, sym, ap}
use Rattle.std.specs.Prelude.{flat_map}
use Rattle.s360_store.specs.declared.place.Place.{Place}
use Rattle.s360_machine.specs.Machine.{Machine}
use Rattle.s360_footprint.specs.Laws.{SequencesAreRows}
use Rattle.s360_footprint.specs.Readings.{AreAllThere, Reading, done, places_read, read, run, value_read}
use Rattle.s360_footprint.specs.Rows.{Made, Row, Store, value_after, with_stores}
use Rattle.s360_footprint.specs.Sequences.{all_read, made_through, row_through, sequence, stores_through, through}
use Rattle.s360_footprint.specs.Values.{AreAlike, value_there, with_value_there}
use Rattle.s360_footprint.proofs.ReadingLemmas.{run-bind, there-first, there-second}
use Rattle.s360_footprint.proofs.RowLemmas.{sizes-stored, values-stored}
use Rattle.s360_footprint.proofs.ValueLemmas.{alike-sym, there-alike}

-- a reading through stores makes what it makes after them
run-through : {X : Type 0} (r : Reading X) (ss : List Store) (m : Machine) → AreAllThere (with_stores m m ss) (places_read r (with_stores m m ss))
    → run (through ss r) m ≡ run r (with_stores m m ss)
run-through (done x) ss m t = refl
run-through (read p next) ss m t =
    let e : value_there (with_stores m m ss) p ≡ run (value_after ss p) m
    = values-stored ss p (value_read p) m m (there-alike (with_stores m m ss) m p (sizes-stored m m ss) t.0) refl
    in run-bind (value_after ss p) (λ v. through ss (next v)) m
    ∙ ap (λ v. run (through ss (next v)) m) (sym e)
    ∙ run-through (next (value_there (with_stores m m ss) p)) ss m t.1

pub stores-append : (before m : Machine) (ss ts : List Store) → with_stores before m (ss ++ ts) ≡ with_stores before (with_stores before m ss) ts
stores-append before m [] ts = refl
stores-append before m (s ∷ ss) ts = stores-append before (with_value_there m s.place (run s.value before)) ss ts

stores-after : (ss ts : List Store) (m x : Machine) → AreAllThere (with_stores m m ss) (flat_map (λ (s : Store). places_read s.value (with_stores m m ss)) ts)
    → with_stores m x (stores_through ss ts) ≡ with_stores (with_stores m m ss) x ts
stores-after ss [] m x h = refl
stores-after ss (t ∷ ts) m x h =
    let now : Machine = with_stores m m ss
    in let reads : List Place = flat_map (λ (s : Store). places_read s.value now) ts
    in ap (λ v. with_stores m (with_value_there x t.place v) (stores_through ss ts))
    (run-through t.value ss m (there-first now (places_read t.value now) reads h))
    ∙ stores-after ss ts m (with_value_there x t.place (run t.value now)) (there-second now (places_read t.value now) reads h)

all-alike : (m n : Machine) (ps : List Place) → AreAlike m n → AreAllThere m ps → AreAllThere n ps
all-alike m n [] a h = tt
all-alike m n (p ∷ ps) a h = (there-alike m n p a h.0, all-alike m n ps a h.1)

pub sequences-are-rows : (First Ending : Type 0) → SequencesAreRows First Ending
sequences-are-rows First Ending first second m there =
    let ss : List Store = (run first m).stores
    in let now : Machine = with_stores m m ss
    in let row : Row Ending = second (run first m).ended
    in let h : AreAllThere now (all_read row now) = all-alike m now (all_read row now) (alike-sym now m (sizes-stored m m ss)) there
    in let reads : List Place = flat_map (λ (s : Store). places_read s.value now) (run row now).stores
    in let made : run (sequence first second) m ≡ made_through ss (run row now)
    = run-bind first (λ made. row_through made.stores (second made.ended)) m
    ∙ run-bind (through ss row) (λ made. done (made_through ss made)) m
    ∙ ap (made_through ss) (run-through row ss m (there-first now (places_read row now) reads h))
    in record {
      machine =
          ap (λ (x : Made Ending). with_stores m m x.stores) made
          ∙ stores-append m m ss (stores_through ss (run row now).stores)
          ∙ stores-after ss (run row now).stores m now (there-second now (places_read row now) reads h);
      ended = ap (λ (x : Made Ending). x.ended) made;
    }
