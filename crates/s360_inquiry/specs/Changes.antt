-- The changes of a place (own profile): each is told by its number and its event, and by the place with its value before
-- and after.
use Rattle.std.specs.Prelude.{ℕ, ◌-◌, nat_lt, if◌then◌else◌, Option, Some, None, List, [], ◌∷◌, ◌++◌, codes, drop, length, min, flat_map, unwrap_or}
use Rattle.s360_model.specs.Text.{decimal}
use Rattle.s360_store.specs.declared.place.Place.{Place}
use Rattle.s360_machine.specs.declared.event.Event.{Event}
use Rattle.s360_machine.specs.declared.event_kind.EventKind.{EventKind}
use Rattle.s360_machine.specs.Machine.{Machine, seen}
use Rattle.s360_journal.specs.Rerun.{changes_of, last_change_of}
use Rattle.s360_journal.specs.Standing.{last_kind_of, machine_of}
use Rattle.s360_journal.specs.Running.{next_event}
use Rattle.s360_journal.specs.Recorded.{Recorded, next_recorded, session_of, standing_events, with_standing}
use Rattle.s360_language.specs.Names.{place_name}
use Rattle.s360_language.specs.Values.{value_words}
use Rattle.s360_inquiry.specs.Happenings.{happening_words}

-- a record of which the changes before that of a number stand
abbrev pub just_before : Recorded → ℕ → Recorded
just_before r number = with_standing r (min (number - 1) (length r.events))

-- the event that comes next in a record
abbrev pub event_next : Recorded → Event
event_next r = unwrap_or (next_recorded r) (next_event (machine_of (session_of r)))

-- the machine just after the change of a number, and what that change's event is
abbrev pub machine_after : Recorded → ℕ → Machine
machine_after r number = machine_of (session_of (with_standing r number))

abbrev pub kind_of_change : Recorded → ℕ → Option EventKind
kind_of_change r number = last_kind_of (standing_events (with_standing r number))

-- what an event is to the machine that it meets, if there is one
abbrev pub kind_words : Machine → Option EventKind → List ℕ
kind_words m None = []
kind_words m (Some kind) = happening_words m kind

-- the number of an event, and what it is
abbrev pub event_words : ℕ → Machine → Option EventKind → List ℕ
event_words number m kind = decimal number ++ codes " " ++ kind_words m kind

abbrev pub words_of_change : Recorded → ℕ → List ℕ
words_of_change r number = event_words number (machine_after r (number - 1)) (kind_of_change r number)

-- a place, with its value before and after
abbrev pub value_line : Place → List ℕ → List ℕ → List ℕ
value_line place before after = place_name place ++ before ++ codes " ->" ++ after ++ codes "\n"

-- both lines of a change: its event, told of the machine that it meets, and a place with its value there and just after it
abbrev pub told_text : Place → ℕ → Machine → Option EventKind → List ℕ → List ℕ
told_text place number m kind after = event_words number m kind ++ codes "\n" ++ value_line place (value_words m place) after

abbrev pub change_text : Recorded → Place → ℕ → List ℕ
change_text r place number =
    told_text place number (machine_after r (number - 1)) (kind_of_change r number) (value_words (machine_after r number) place)

-- the last standing change of a place, which `who` tells, and just before which the recording stands then
abbrev pub last_change_in : Recorded → Place → Option ℕ
last_change_in r place = last_change_of (seen r.start) (standing_events r) place

abbrev pub who_text : Recorded → Place → Option ℕ → List ℕ
who_text r place None = codes "who none" ++ codes "\n"
who_text r place (Some number) = change_text r place number

abbrev pub stands_after_who : Recorded → Option ℕ → ℕ
stands_after_who r None = r.standing
stands_after_who r (Some number) = number - 1

-- the last of some numbers, so many at most
abbrev pub last_of : ℕ → List ℕ → List ℕ
last_of most numbers = drop (length numbers - most) numbers

-- the last standing changes of a place, so many at most, the oldest first
abbrev pub told_changes : Recorded → Place → List ℕ → List ℕ
told_changes r place [] = codes "changes none" ++ codes "\n"
told_changes r place (number ∷ numbers) = flat_map (change_text r place) (number ∷ numbers)

-- so many are told at most
abbrev pub most_told : ℕ
most_told = 1000

abbrev pub more_words : List ℕ → List ℕ
more_words numbers = if nat_lt most_told (length numbers) then codes "and more\n" else []

abbrev pub changes_asked : Recorded → Place → ℕ → List ℕ
changes_asked r place most = last_of most (changes_of (seen r.start) (standing_events r) place)

abbrev pub changes_text : Recorded → Place → ℕ → List ℕ
changes_text r place most = told_changes r place (last_of most_told (changes_asked r place most)) ++ more_words (changes_asked r place most)
