-- Events run again from a start, and the last change of a place among them.
use Rattle.std.specs.Prelude.{◌≡◌, ℕ, ◌+◌, Bool, List, [], ◌∷◌, Option, Some, None, Ok, if◌then◌else◌}
use Rattle.std.specs.List.{list_any}
use Rattle.s360_store.specs.declared.place.Place.{Place}
use Rattle.s360_store.specs.Places.{same_place}
use Rattle.s360_machine.specs.declared.event.Event.{Event}
use Rattle.s360_machine.specs.Machine.{Machine}
use Rattle.s360_machine.specs.Step.{step, after}
use Rattle.s360_machine.specs.Differences.{differences}

-- the machine after the events, one after another
abbrev pub rerun : Machine → List Event → Machine
rerun m [] = m
rerun m (e ∷ es) = rerun (after m e) es

-- no event is refused on the way
abbrev pub AreAccepted : Machine → List Event → Type 0
AreAccepted m [] = Unit {0}
AreAccepted m (e ∷ es) = (step m e ≡ Ok (after m e)) × AreAccepted (after m e) es

-- the event alters the place
abbrev pub alters : Machine → Event → Place → Bool
alters m e p = list_any (λ q. same_place q p) (differences m (after m e))

-- the numbers of the events that alter the place, where the events are numbered from this one on
abbrev pub altering_events_from : ℕ → Machine → List Event → Place → List ℕ
altering_events_from k m [] p = []
altering_events_from k m (e ∷ es) p = if alters m e p then k ∷ altering_events_from (k + 1) (after m e) es p else altering_events_from (k + 1) (after m e) es p

-- the numbers of the changes of a place, ascending; changes are numbered from 1
abbrev pub changes_of : Machine → List Event → Place → List ℕ
changes_of start es p = altering_events_from 1 start es p

-- a number, or else what another answers
abbrev pub or_else : Option ℕ → Option ℕ → Option ℕ
or_else (Some k) other = Some k
or_else None other = other

-- the greatest number of an event that alters the place, where the events are numbered from this one on: a
-- later one comes before an earlier one
abbrev pub last_numbered_from : ℕ → Machine → List Event → Place → Option ℕ
last_numbered_from k m [] p = None
last_numbered_from k m (e ∷ es) p = or_else (last_numbered_from (k + 1) (after m e) es p) (if alters m e p then Some k else None)

-- the number of the last change of a place; changes are numbered from 1
abbrev pub last_change_of : Machine → List Event → Place → Option ℕ
last_change_of start es p = last_numbered_from 1 start es p
