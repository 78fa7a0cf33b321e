-- How the machine goes on and back for gdb's `s`, `c`, `bs` and `bc` (gdb manual, "Packets", "Reverse Execution"). The events stay in
-- the record.
use Rattle.std.specs.Prelude.{◌≡◌, ℕ, zero, suc, Bool, true, false, nat_eq, ◌&&◌, if◌then◌else◌, List, [], ◌∷◌, Option, Some, None, length, take}
use Rattle.s360_store.specs.declared.place.Place.{Place}
use Rattle.s360_machine.specs.declared.event.Event.{Event}
use Rattle.s360_machine.specs.declared.event.Event.TheVariants.{Cpu, Channel}
use Rattle.s360_machine.specs.declared.event_kind.EventKind.{EventKind}
use Rattle.s360_machine.specs.declared.event_kind.EventKind.TheVariants.{Cpu as cpu_kind, Channel as channel_kind}
use Rattle.s360_journal.specs.Recorded.{Recorded, after_events, session_of, standing_events, with_standing}
use Rattle.s360_journal.specs.Returning.{back_of, one_back}
use Rattle.s360_journal.specs.Running.{Run, next_event, run_in}
use Rattle.s360_journal.specs.Standing.{alteration, last_kind_of, last_of, machine_of}
use Rattle.s360_journal.specs.declared.running.Pause.{Pause}
use Rattle.s360_journal.specs.declared.running.Pause.TheVariants.{Done, Idle, RecordStart, Refused, Watch}
use Rattle.s360_journal.specs.declared.running.Reach.{Reach}
use Rattle.s360_journal.specs.declared.running.Turn.TheVariants.{Next}
use Rattle.s360_remote.specs.Accesses.{accesses_next, bytes_met}
use Rattle.s360_remote.specs.declared.points.Met.{Met}
use Rattle.s360_remote.specs.Points.{Points, bytes_altered, stops_of, waits_for_reads}

-- where the machine went, why it pauses there, and the watched bytes that were met if that is why
pub record Moved : Type 0 where
  pub recorded : Recorded
  pub why : Pause
  pub met : List Met

-- why it pauses, these bytes and where it stands are as it moved
abbrev pub IsMoved : Pause → List Met → Recorded → Moved → Type 0
IsMoved why met r moved = (why ≡ moved.why) × ((met ≡ moved.met) × (r ≡ moved.recorded))

abbrev pub altered_if : Pause → Points → Recorded → List Met
altered_if Watch p r = bytes_altered (session_of r) p.watches
altered_if other p r = []

-- so many events are run, or taken back, before gdb is let in
abbrev pub most_turns : ℕ
most_turns = 300000

-- ---- it goes on

abbrev pub run_on : Points → Reach → Recorded → Run
run_on p reach r = run_in (stops_of p) Next reach r most_turns

abbrev pub gone_on : Points → Reach → Recorded → Moved
gone_on p reach r =
    let run = run_on p reach r
    in let now = after_events r run.events
    in record { recorded = now; why = run.why; met = altered_if run.why p now }

-- ---- where a watch waits for reads, event by event

-- so many events are looked at before gdb is let in
abbrev pub most_looks : ℕ
most_looks = 10000

-- why the machine pauses after an event that met these bytes: it goes on from one that was refused, or altered nothing, as ever
abbrev pub why_met : List Met → Pause → Pause
why_met met (Refused refusal) = Refused refusal
why_met met Idle = Idle
why_met [] why = why
why_met (b ∷ others) why = Watch

abbrev pub met_if : Pause → List Met → List Met
met_if Watch met = met
met_if other met = []

abbrev pub moved_with : Recorded → Pause → List Met → Moved
moved_with r why met = record { recorded = r; why = why_met met why; met = met_if (why_met met why) met }

abbrev pub one_on : Points → Reach → Recorded → Moved
one_on p reach r =
    let run = run_in (stops_of p) Next reach r 1
    in let now = after_events r run.events
    in moved_with now run.why (bytes_met (accesses_next r) (session_of now) p.watches)

-- the machine goes on with what is left where this is not why it is to pause
abbrev pub unless_paused : Pause → Moved → Moved → Moved
unless_paused Done moved others = others
unless_paused why moved others = moved

unfoldable pub looking_on : Points → Reach → Recorded → ℕ → Moved
looking_on p reach r zero = record { recorded = r; why = Done; met = [] }
looking_on p reach r (suc n) = let moved = one_on p reach r in unless_paused moved.why moved (looking_on p reach moved.recorded n)

-- how far it came with so many events
abbrev pub partly_on : Points → Reach → Recorded → ℕ → Recorded
partly_on p reach r n =
    if waits_for_reads p then (looking_on p reach r n).recorded else after_events r (take n (run_on p reach r).events)

-- an event of this kind was the one whose turn it is
abbrev pub is_turn_of : Option EventKind → Event → Bool
is_turn_of (Some cpu_kind) Cpu = true
is_turn_of (Some (channel_kind u)) (Channel v) = nat_eq u.0 v.0
is_turn_of last next = false

-- an event altered nothing
abbrev pub is_in_vain : List Place → Bool
is_in_vain [] = true
is_in_vain (p ∷ ps) = false

-- the last change altered nothing, or none stands
abbrev pub was_in_vain : Option Event → Recorded → Bool
was_in_vain (Some last) r = is_in_vain (alteration (session_of (one_back r)) last)
was_in_vain None r = true

-- all that was recorded stands, and the event whose turn it is was the last and altered nothing: it would alter nothing again
abbrev pub is_at_rest : Recorded → Bool
is_at_rest r =
    nat_eq r.standing (length r.events)
    && was_in_vain (last_of (standing_events r)) r
    && is_turn_of (last_kind_of (standing_events r)) (next_event (machine_of (session_of r)))

-- where it is at rest nothing more is run
abbrev pub resumed : Points → Reach → Recorded → Moved
resumed p reach r =
    if is_at_rest r then record { recorded = r; why = Idle; met = [] }
    else (if waits_for_reads p then looking_on p reach r most_looks else gone_on p reach r)

-- ---- it goes back

-- a change that altered watched bytes is taken back too
abbrev pub taken_back : Points → Pause → Recorded → Moved
taken_back p Watch r = record { recorded = one_back r; why = Watch; met = bytes_altered (session_of r) p.watches }
taken_back p other r = record { recorded = r; why = other; met = [] }

abbrev pub back_at_once : Points → Reach → Recorded → Moved
back_at_once p reach r = let back = back_of (stops_of p) reach r most_turns in taken_back p back.why (with_standing r back.standing)

-- where a watch waits for reads, change by change: what was taken back is looked at as the event that comes next
abbrev pub back_by_one : Points → Reach → Recorded → Moved
back_by_one p reach r =
    let met = bytes_met (accesses_next (one_back r)) (session_of r) p.watches
    in moved_with (one_back r) (back_of (stops_of p) reach r 1).why met

unfoldable pub looking_back : Points → Reach → Recorded → ℕ → Moved
looking_back p reach r zero = record { recorded = r; why = Done; met = [] }
looking_back p reach r (suc n) =
    if nat_eq r.standing 0 then record { recorded = r; why = RecordStart; met = [] }
    else (let moved = back_by_one p reach r in unless_paused moved.why moved (looking_back p reach moved.recorded n))

abbrev pub gone_back : Points → Reach → Recorded → Moved
gone_back p reach r = if waits_for_reads p then looking_back p reach r most_looks else back_at_once p reach r
