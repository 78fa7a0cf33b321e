-- An event that is offered to a session, and the session in which more events stand.
use Rattle.std.specs.Prelude.{Option, Some, None, List, [], ◌∷◌, ◌++◌}
use Rattle.s360_machine.specs.declared.event.Event.{Event}
use Rattle.s360_machine.specs.declared.refusal.Refusal.{Refusal}
use Rattle.s360_journal.specs.Standing.{Standing}

-- an event that is offered, unless it is refused
abbrev pub unless_refused : Option Refusal → Event → List Event
unless_refused (Some r) e = []
unless_refused None e = e ∷ []

-- the session in which more events stand
abbrev pub with_events : Standing → List Event → Standing
with_events s es = record s { events = s.events ++ es }
