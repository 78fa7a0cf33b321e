-- A reading: something is made of what stands at places of the machine. Which place is read next may come from what was read before (ours).
use Rattle.std.specs.Prelude.{◌≡◌, List, [], ◌∷◌}
use Rattle.s360_store.specs.declared.place.Place.{Place}
use Rattle.s360_machine.specs.Machine.{Machine}
use Rattle.s360_footprint.specs.Values.{Value, IsThere, value_there}

-- it is done, or reads a place and goes on with what stands there
pub data Reading (X : Type 0) : Type 0 where
  done : X → Reading X
  read : (p : Place) → (Value p → Reading X) → Reading X

-- what it makes in a machine
abbrev pub run : {X : Type 0} → Reading X → Machine → X
run (done x) m = x
run (read p next) m = run (next (value_there m p)) m

-- the places that it reads there
abbrev pub places_read : {X : Type 0} → Reading X → Machine → List Place
places_read (done x) m = []
places_read (read p next) m = p ∷ places_read (next (value_there m p)) m

-- one reading, and a further one by what it makes
abbrev pub bind : {X Y : Type 0} → Reading X → (X → Reading Y) → Reading Y
bind (done x) further = further x
bind (read p next) further = read p (λ v. bind (next v) further)

-- what stands at a place
abbrev pub value_read : (p : Place) → Reading (Value p)
value_read p = read p (λ v. done v)

-- two machines have the same at each of some places
abbrev pub HaveAllSame : Machine → Machine → List Place → Type 0
HaveAllSame m n [] = Unit {0}
HaveAllSame m n (p ∷ ps) = (value_there m p ≡ value_there n p) × HaveAllSame m n ps

-- a machine has each of some places
abbrev pub AreAllThere : Machine → List Place → Type 0
AreAllThere m [] = Unit {0}
AreAllThere m (p ∷ ps) = IsThere m p × AreAllThere m ps

-- something that is made of what stands at some places, whatever it is there
abbrev pub made_of : {X : Type 0} → List Place → X → Reading X
made_of [] x = done x
made_of (p ∷ ps) x = read p (λ v. made_of ps x)
