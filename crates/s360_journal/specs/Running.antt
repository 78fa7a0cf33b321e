-- A run: events one after another, until the machine is to pause. Some may have been recorded, and are run again.
use Rattle.std.specs.Prelude.{◌≡◌, ◌&&◌, ℕ, zero, suc, Bool, true, false, nat_eq, Option, Some, None, is_some, List, [], ◌∷◌, ◌++◌, drop, length, slice_get}
use Rattle.std.specs.Option.{option_map_or, unwrap_or}
use Rattle.s360_store.specs.declared.place.Place.{Place}
use Rattle.s360_machine.specs.declared.event.Event.{Event}
use Rattle.s360_machine.specs.declared.event.Event.TheVariants.{Cpu, Channel}
use Rattle.s360_machine.specs.declared.refusal.Refusal.{Refusal}
use Rattle.s360_machine.specs.Machine.{Machine}
use Rattle.s360_channel.specs.ConfiguredUnits.{active_unit, address_of_unit}
use Rattle.s360_journal.specs.Breakpoints.{is_at_breakpoint}
use Rattle.s360_journal.specs.Recorded.{AreRun, Recorded, rest_of, session_of}
use Rattle.s360_journal.specs.Standing.{IsAfter, Standing, machine_of, refusal_in, alteration}
use Rattle.s360_journal.specs.declared.running.Pause.{Pause}
use Rattle.s360_journal.specs.declared.running.Pause.TheVariants.{Refused, Idle, Watch, Break, Stepped, RecordEnd, Done}
use Rattle.s360_journal.specs.declared.running.Reach.{Reach}
use Rattle.s360_journal.specs.declared.running.Reach.TheVariants.{Step, Stop}
use Rattle.s360_journal.specs.declared.running.Turn.{Turn}
use Rattle.s360_journal.specs.declared.running.Turn.TheVariants.{New, Next}
use Rattle.s360_journal.specs.Offers.{unless_refused, with_events}

-- where a machine is to pause: the CPU operates at a breakpoint, or the last change altered what is watched
pub record WhereToStop : Type 0 where
  pub at : Machine → Bool
  pub altered : Standing → Bool

-- at breakpoints alone
abbrev pub stops_at : List ℕ → WhereToStop
stops_at breaks = record { at = λ m. is_at_breakpoint m breaks; altered = λ s. false }

-- the event whose turn it is: the channel event of the lowest active unit, else a CPU event
unfoldable pub next_event : Machine → Event
next_event m = option_map_or (λ u. Channel (record { 0 = address_of_unit u })) (active_unit m.units) Cpu

-- those that a run takes first: the rest of the record, or none where all are to be new
abbrev pub rest_in : Turn → Recorded → List Event
rest_in New r = []
rest_in Next r = rest_of r

-- the first of the rest, or else the one whose turn it is
abbrev pub event_of_turn : Standing → List Event → Event
event_of_turn s rest = unwrap_or (slice_get rest 0) (next_event (machine_of s))

abbrev pub is_cpu : Event → Bool
is_cpu Cpu = true
is_cpu e = false

-- the event is as far as was asked: an event of the CPU, or one after which the CPU operates at a breakpoint
abbrev pub is_reached : WhereToStop → Reach → Standing → Event → Bool
is_reached stops Step after e = is_cpu e
is_reached stops Stop after e = stops.at (machine_of after)

abbrev pub pause_of : Reach → Pause
pause_of Step = Stepped
pause_of Stop = Break

-- an event altered these places, and it was not recorded: nothing is left to do
abbrev pub is_idle : List Event → List Place → Bool
is_idle [] [] = true
is_idle rest places = false

-- the event was the last of the record
abbrev pub is_end : List Event → Bool
is_end rest = nat_eq (length rest) 1

-- why the machine pauses after an event, the first of the reasons that hold: nothing is left to do, what is watched was altered,
-- the event was as far as was asked, the record ended. The end of the record is told in place of a step.
abbrev pub pause_with : Bool → Bool → Bool → Bool → Reach → Option Pause
pause_with true altered reached ended reach = Some Idle
pause_with false true reached ended reach = Some Watch
pause_with false false reached true Step = Some RecordEnd
pause_with false false true ended reach = Some (pause_of reach)
pause_with false false false true reach = Some RecordEnd
pause_with false false false false reach = None

abbrev pub pause_after : WhereToStop → Reach → Standing → List Event → Event → Option Pause
pause_after stops reach s rest e =
    let after = with_events s (e ∷ [])
    in pause_with (is_idle rest (alteration s e)) (stops.altered after) (is_reached stops reach after e) (is_end rest) reach

-- an event that is refused is the first reason of all
abbrev pub refused_or : Option Refusal → Option Pause → Option Pause
refused_or (Some r) pause = Some (Refused r)
refused_or None pause = pause

-- the turn of the next event: why the machine pauses with it, if it does, and the event, where it is accepted
unfoldable pub pause_of_turn : WhereToStop → Reach → Standing → List Event → Option Pause
pause_of_turn stops reach s rest = let e = event_of_turn s rest in refused_or (refusal_in s e) (pause_after stops reach s rest e)

unfoldable pub events_of_turn : Standing → List Event → List Event
events_of_turn s rest = let e = event_of_turn s rest in unless_refused (refusal_in s e) e

-- the events of a run that are accepted, and why it ends
pub record Run : Type 0 where
  pub events : List Event
  pub why : Pause

-- a run that begins with these events, and goes on where it does not end with them
abbrev pub run_by : List Event → Option Pause → Run → Run
run_by es (Some why) others = record { events = es; why = why }
run_by es None others = record { events = es ++ others.events; why = others.why }

-- a run of at most so many events, of which those of the rest come first
unfoldable pub run_of : WhereToStop → Reach → Standing → List Event → ℕ → Run
run_of stops reach s rest zero = record { events = []; why = Done }
run_of stops reach s rest (suc n) =
    run_by (events_of_turn s rest) (pause_of_turn stops reach s rest) (run_of stops reach (with_events s (events_of_turn s rest)) (drop 1 rest) n)

-- that of a session
abbrev pub run_in : WhereToStop → Turn → Reach → Recorded → ℕ → Run
run_in stops turn reach r most = run_of stops reach (session_of r) (rest_in turn r) most

-- a turn was taken
pub record IsTurn (stops : WhereToStop) (turn : Turn) (reach : Reach) (r : Recorded) (pause : Option Pause) (t : Recorded) : Type 0 where
  pub why : pause ≡ pause_of_turn stops reach (session_of r) (rest_in turn r)
  pub ran : AreRun r (events_of_turn (session_of r) (rest_in turn r)) t
  pub rest : rest_in turn t ≡ drop 1 (rest_in turn r)

-- an event was accepted where this was the rest, of which it was the first if it was run again
pub record IsAccepted (now : Recorded) (s : Standing) (rest : List Event) (e : Event) (again : Bool) : Type 0 where
  pub stands : IsAfter (session_of now) s e
  pub met : again ≡ is_some (slice_get rest 0)
  pub ended : (again && nat_eq now.standing (length now.events)) ≡ is_end rest

-- whichever event was accepted, it tells why the machine pauses after it; and whether it was as far as was asked
abbrev pub TellsPause : WhereToStop → Reach → Recorded → Bool → Option Pause → Type 0
TellsPause stops reach now again pause =
    (s : Standing) (rest : List Event) (e : Event) → IsAccepted now s rest e again → pause ≡ pause_after stops reach s rest e

abbrev pub TellsReached : WhereToStop → Reach → Standing → Bool → Type 0
TellsReached stops reach now reached = (s : Standing) (e : Event) → IsAfter now s e → reached ≡ is_reached stops reach now e
