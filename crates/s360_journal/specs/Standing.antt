-- What a session is seen as, and what may answer an event in it.
use Rattle.std.specs.Prelude.{ℕ, ◌-◌, ◌≡◌, List, [], ◌∷◌, ◌++◌, length, slice_get, take, nat_lt, if◌then◌else◌, Option, Some, None, option_map}
use Rattle.s360_store.specs.declared.place.Place.{Place}
use Rattle.s360_machine.specs.declared.event.Event.{Event}
use Rattle.s360_machine.specs.declared.event_kind.EventKind.{EventKind}
use Rattle.s360_machine.specs.EventKinds.{kind_of_event}
use Rattle.s360_machine.specs.declared.refusal.Refusal.{Refusal}
use Rattle.s360_machine.specs.declared.refusal.Refusal.TheVariants.{JournalFull}
use Rattle.s360_machine.specs.Machine.{Machine, Whole, storage_size, seen}
use Rattle.s360_machine.specs.Step.{after}
use Rattle.s360_machine.specs.Refusals.{refusal_of}
use Rattle.s360_machine.specs.Differences.{differences}
use Rattle.s360_journal.specs.Rerun.{rerun}

-- the whole machine at the start, the events that stand, and how many may stand
pub record Standing : Type 0 where
  pub start : Whole
  pub events : List Event
  pub limit : ℕ

-- the machine now: the start with the standing events run again
abbrev pub machine_of : Standing → Machine
machine_of s = rerun (seen s.start) s.events

-- a full journal comes after what the event's own sake refuses
abbrev pub or_full : Option Refusal → ℕ → ℕ → Option Refusal
or_full (Some r) count limit = Some r
or_full None count limit = if nat_lt count limit then None else Some JournalFull

-- why an event is refused, but for want of memory
abbrev pub refusal_in : Standing → Event → Option Refusal
refusal_in s e = or_full (refusal_of (storage_size (machine_of s)) e) (length s.events) s.limit

-- the session in which an event more stands than in another
abbrev pub IsAfter : Standing → Standing → Event → Type 0
IsAfter t s e = t ≡ record s { events = s.events ++ e ∷ [] }

-- the session before its last event
abbrev pub before_last : Standing → Standing
before_last s = record s { events = take (length s.events - 1) s.events }

-- the places that an event alters
abbrev pub alteration : Standing → Event → List Place
alteration s e = differences (machine_of s) (after (machine_of s) e)

-- the last of the events, if there is one
abbrev pub last_of : List Event → Option Event
last_of es = slice_get es (length es - 1)

-- what it is
abbrev pub last_kind_of : List Event → Option EventKind
last_kind_of es = option_map kind_of_event (last_of es)
