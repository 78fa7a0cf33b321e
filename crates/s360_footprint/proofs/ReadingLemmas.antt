-- Readings: what they make in machines that have the same at the places that they read, and one reading after another.
use Rattle.std.proofs.Common.{◌≡◌, ◌∙◌, ◌++◌, List, [], ◌∷◌, refl, ap}
use Rattle.s360_store.specs.declared.place.Place.{Place}
use Rattle.s360_machine.specs.Machine.{Machine}
use Rattle.s360_footprint.specs.Readings.{AreAllThere, HaveAllSame, Reading, bind, done, made_of, places_read, read, run}
use Rattle.s360_footprint.specs.Values.{value_there}

pub decided : {X : Type 0} (r : Reading X) (m n : Machine) → HaveAllSame m n (places_read r m) → (run r m ≡ run r n) × (places_read r m ≡ places_read r n)
decided (done x) m n h = (refl, refl)
decided (read p next) m n h =
    let i : (run (next (value_there m p)) m ≡ run (next (value_there m p)) n) ×
    (places_read (next (value_there m p)) m ≡ places_read (next (value_there m p)) n)
    = decided (next (value_there m p)) m n h.1
    in (i.0 ∙ ap (λ v. run (next v) n) h.0, ap (λ l. p ∷ l) (i.1 ∙ ap (λ v. places_read (next v) n) h.0))

pub run-bind : {X Y : Type 0} (r : Reading X) (further : X → Reading Y) (m : Machine) → run (bind r further) m ≡ run (further (run r m)) m
run-bind (done x) further m = refl
run-bind (read p next) further m = run-bind (next (value_there m p)) further m

pub places-bind : {X Y : Type 0} (r : Reading X) (further : X → Reading Y) (m : Machine)
    → places_read (bind r further) m ≡ places_read r m ++ places_read (further (run r m)) m
places-bind (done x) further m = refl
places-bind (read p next) further m = ap (λ l. p ∷ l) (places-bind (next (value_there m p)) further m)

-- the places of two lists
pub there-first : (m : Machine) (ps qs : List Place) → AreAllThere m (ps ++ qs) → AreAllThere m ps
there-first m [] qs h = tt
there-first m (p ∷ ps) qs h = (h.0, there-first m ps qs h.1)

pub there-second : (m : Machine) (ps qs : List Place) → AreAllThere m (ps ++ qs) → AreAllThere m qs
there-second m [] qs h = h
there-second m (p ∷ ps) qs h = there-second m ps qs h.1

pub run-made-of : {X : Type 0} (ps : List Place) (x : X) (m : Machine) → run (made_of ps x) m ≡ x
run-made-of [] x m = refl
run-made-of (p ∷ ps) x m = run-made-of ps x m

pub there-both : (m : Machine) (ps qs : List Place) → AreAllThere m ps → AreAllThere m qs → AreAllThere m (ps ++ qs)
there-both m [] qs g h = h
there-both m (p ∷ ps) qs g h = (g.0, there-both m ps qs g.1 h)
