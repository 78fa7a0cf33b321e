-- The laws of events (ours).
use Rattle.std.specs.Prelude.{◌≡◌, ◌≤◌, false, None, length}
use Rattle.s360_store.specs.declared.place.Place.{Place}
use Rattle.s360_store.specs.Places.{is_among}
use Rattle.s360_channel.specs.ConfiguredUnits.{HasEachUnit}
use Rattle.s360_machine.specs.declared.event.Event.{Event}
use Rattle.s360_machine.specs.Machine.{Machine, storage_size}
use Rattle.s360_machine.specs.Refusals.{refusal_of}
use Rattle.s360_machine.specs.Step.{after as after_event}
use Rattle.s360_footprint.specs.EventRows.{deciders, row_in, sources, stored}
use Rattle.s360_footprint.specs.Readings.{HaveAllSame, run}
use Rattle.s360_footprint.specs.Rows.{after}
use Rattle.s360_footprint.specs.Values.{AreAlike, value_there}

-- an event that is not refused, in a machine with the permanent locations and the six units
pub record Happens (m : Machine) (e : Event) : Type 0 where
  pub accepted : refusal_of (storage_size m) e ≡ None
  pub permanent : 128 ≤ storage_size m
  pub units : HasEachUnit m.units

-- its row does what it does
abbrev pub EventsAreRows : Type 0
EventsAreRows = (m : Machine) (e : Event) → Happens m e → after (row_in m e) m ≡ after_event m e

-- a place that it does not store keeps its value
abbrev pub EventKeepsOthers : Type 0
EventKeepsOthers =
    (m : Machine) (e : Event) (p : Place) → Happens m e → is_among (stored m e) p ≡ false → value_there (after_event m e) p ≡ value_there m p

-- where two machines of one size and profile have the same at its deciders, it does the same in both
abbrev pub EventDecided : Type 0
EventDecided = (m n : Machine) (e : Event) → AreAlike m n → HaveAllSame m n (deciders m e) → run (row_in m e) m ≡ run (row_in n e) n

-- and where it does, and they have the same at the sources of a place, they have the same there afterwards
abbrev pub EventFollows : Type 0
EventFollows =
    (m n : Machine) (e : Event) (p : Place) → AreAlike m n → Happens m e → run (row_in m e) m ≡ run (row_in n e) n
    → HaveAllSame m n (sources m e p) → value_there (after_event m e) p ≡ value_there (after_event n e) p
