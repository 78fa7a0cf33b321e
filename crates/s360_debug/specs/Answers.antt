-- What a command answers, and what stands afterwards (own profile). Each line of an answer is ended by one
-- line feed.
use Rattle.std.specs.Prelude.{◌≡◌, ℕ, ◌+◌, Bool, true, false, if◌then◌else◌, nat_lt, Option, Some, None, List, [], ◌∷◌, ◌++◌, codes, length, take}
use Rattle.s360_model.specs.Text.{decimal}
use Rattle.s360_store.specs.declared.place.Place.{Place}
use Rattle.s360_machine.specs.declared.event.Event.{Event}
use Rattle.s360_machine.specs.declared.event_kind.EventKind.{EventKind}
use Rattle.s360_machine.specs.declared.refusal.Refusal.{Refusal}
use Rattle.s360_machine.specs.Machine.{seen}
use Rattle.s360_journal.specs.declared.report.Report.{Report}
use Rattle.s360_journal.specs.declared.report.Report.TheVariants.{Changed, Idle}
use Rattle.s360_journal.specs.Rerun.{last_change_of}
use Rattle.s360_journal.specs.Standing.{Standing, machine_of, refusal_in, alteration, last_kind_of}
use Rattle.s360_journal.specs.Breakpoints.{has_room_for, with_address, without_address}
use Rattle.s360_journal.specs.Stops.{stop_of}
use Rattle.s360_journal.specs.Offers.{unless_refused}
use Rattle.s360_journal.specs.Recorded.{Recorded, after_events, session_of, standing_events, with_standing, without_change}
use Rattle.s360_journal.specs.Returning.{one_back}
use Rattle.s360_journal.specs.Withdrawals.{is_standing}
use Rattle.s360_language.specs.declared.command.Command.{Command}
use Rattle.s360_language.specs.declared.command.Command.TheVariants.{Back, Standing as standing, Last, Show, Break, Clear, Until, Run, Withdraw}
use Rattle.s360_language.specs.declared.command.LineFault.{LineFault}
use Rattle.s360_language.specs.declared.command.LineFault.TheVariants.{LineTooLong, Unknown, Argument, Memory}
use Rattle.s360_language.specs.Commands.{event_of}
use Rattle.s360_language.specs.Names.{place_name, event_name, refused_text}
use Rattle.s360_language.specs.Shown.{shown_text}
use Rattle.s360_debug.specs.Debugger.{Debugger}
use Rattle.s360_debug.specs.Running.{run_at, run_text}

-- the names of places, each after a blank
abbrev pub place_names : List Place → List ℕ
place_names [] = []
place_names (p ∷ ps) = (codes " " ++ place_name p) ++ place_names ps

-- a report tells the number of places, the first eight, and that there are more
abbrev pub changed_after : List ℕ → List Place → List ℕ
changed_after text ps = text ++ codes " changed " ++ decimal (length ps) ++ place_names (take 8 ps) ++ (if nat_lt 8 (length ps) then codes " .." else [])

abbrev pub changed_text : ℕ → List Place → List ℕ
changed_text number ps = changed_after (decimal number) ps ++ codes "\n"

abbrev pub report_text : ℕ → List Place → List ℕ
report_text number [] = decimal number ++ codes " idle" ++ codes "\n"
report_text number (p ∷ ps) = changed_text number (p ∷ ps)

-- a report's text
abbrev pub text_of_report : ℕ → Report → List ℕ
text_of_report number Idle = decimal number ++ codes " idle" ++ codes "\n"
text_of_report number (Changed ps) = changed_text number ps

abbrev pub text_of_outcome : Option Refusal → Standing → Event → List ℕ
text_of_outcome (Some r) s e = refused_text r
text_of_outcome None s e = report_text (length s.events + 1) (alteration s e)

abbrev pub text_of_event : Standing → Event → List ℕ
text_of_event s e = text_of_outcome (refusal_in s e) s e

abbrev pub back_text : ℕ → Option EventKind → List ℕ
back_text number None = codes "nothing stands" ++ codes "\n"
back_text number (Some kind) = codes "back " ++ decimal number ++ codes " " ++ event_name kind ++ codes "\n"

abbrev pub text_of_offer : Standing → Option Event → List ℕ
text_of_offer s (Some e) = text_of_event s e
text_of_offer s None = []

-- the number of a place's last change
abbrev pub last_text : Option ℕ → List ℕ
last_text None = codes "last none" ++ codes "\n"
last_text (Some number) = codes "last " ++ decimal number ++ codes "\n"

-- the number of breakpoints that are kept
abbrev pub breaks_text : List ℕ → List ℕ
breaks_text breaks = codes "breaks " ++ decimal (length breaks) ++ codes "\n"

-- a breakpoint is set, if there is room for it
abbrev pub break_text : List ℕ → ℕ → List ℕ
break_text breaks at = if has_room_for breaks at then breaks_text (with_address breaks at) else codes "breaks full" ++ codes "\n"

-- how many of the events stand after going back to the last stop at a breakpoint
abbrev pub stop_in : Debugger → ℕ
stop_in d = stop_of (seen d.session.start) (standing_events d.session) d.breaks

-- a withdrawal, and what it leaves
abbrev pub withdrawal_text : ℕ → Bool → List ℕ
withdrawal_text number true = codes "withdrawn " ++ decimal number ++ codes "\n"
withdrawal_text number false = codes "no such change" ++ codes "\n"

abbrev pub withdrawn : ℕ → Recorded → Recorded
withdrawn number r = if is_standing number (standing_events r) then without_change r number else r

-- a command's answer; each that has no row of its own offers an event
unfoldable pub answer_to : Debugger → Command → List ℕ
answer_to d Back = back_text d.session.standing (last_kind_of (standing_events d.session))
answer_to d standing = codes "standing " ++ decimal d.session.standing ++ codes "\n"
answer_to d (Last place) = last_text (last_change_of (seen d.session.start) (standing_events d.session) place)
answer_to d (Show shown) = shown_text (machine_of (session_of d.session)) shown
answer_to d (Break at) = break_text d.breaks at
answer_to d (Clear at) = breaks_text (without_address d.breaks at)
answer_to d Until = codes "until " ++ decimal (stop_in d) ++ codes "\n"
answer_to d (Withdraw number) = withdrawal_text number (is_standing number (standing_events d.session))
answer_to d (Run most) = let run = run_at d.breaks (session_of d.session) most in run_text (length run.events) run.why
answer_to d command = text_of_offer (session_of d.session) (event_of command)

abbrev pub accepted_of_offer : Standing → Option Event → List Event
accepted_of_offer s (Some e) = unless_refused (refusal_in s e) e
accepted_of_offer s None = []

abbrev pub after_offer : Recorded → Event → Recorded
after_offer r e = after_events r (accepted_of_offer (session_of r) (Some e))

-- of the events that a command offers, those that are accepted, up to where it stops
abbrev pub accepted_events : Debugger → Command → List Event
accepted_events d (Run most) = (run_at d.breaks (session_of d.session) most).events
accepted_events d command = accepted_of_offer (session_of d.session) (event_of command)

-- what the debugger keeps after a command; each that has no row of its own adds the events that are accepted
unfoldable pub state_after : Debugger → Command → Debugger
state_after d Back = record d { session = one_back d.session }
state_after d (Break at) = record d { breaks = with_address d.breaks at }
state_after d (Clear at) = record d { breaks = without_address d.breaks at }
state_after d Until = record d { session = with_standing d.session (stop_in d) }
state_after d (Withdraw number) = record d { session = withdrawn number d.session }
state_after d command = record d { session = after_events d.session (accepted_events d command) }

-- after want of memory the first n of the accepted events are added, for some n
abbrev pub StandsPartly : Debugger → Command → Recorded → Type 0
StandsPartly d command r = (n : ℕ) × (r ≡ after_events d.session (take n (accepted_events d command)))

-- what a faulty line answers; want of memory is no fault of the line
abbrev pub fault_text : LineFault → List ℕ
fault_text LineTooLong = codes "? " ++ codes "line too long" ++ codes "\n"
fault_text Unknown = codes "? " ++ codes "unknown" ++ codes "\n"
fault_text (Argument place) = codes "? " ++ codes "argument " ++ decimal place ++ codes "\n"
fault_text Memory = []
