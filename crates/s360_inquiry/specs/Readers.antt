-- Events that read places since the last store there, and what they made of them (own profile). An event reads a place that it is decided by, or that
-- it makes a value of; the footprint has which these are.
use Rattle.std.specs.Prelude.{ℕ, ◌-◌, Bool, true, false, ◌||◌, if◌then◌else◌, List, [], ◌∷◌, ◌++◌, codes, flat_map}
use Rattle.std.specs.List.{list_any}
use Rattle.s360_store.specs.declared.place.Place.{Place}
use Rattle.s360_machine.specs.declared.event.Event.{Event}
use Rattle.s360_machine.specs.Machine.{Machine}
use Rattle.s360_journal.specs.Standing.{machine_of}
use Rattle.s360_journal.specs.Recorded.{Recorded, session_of, with_standing}
use Rattle.s360_footprint.specs.EventRows.{deciders, sources}
use Rattle.s360_inquiry.specs.declared.extent.Extent.{Extent}
use Rattle.s360_inquiry.specs.Causes.{with_places}
use Rattle.s360_inquiry.specs.Changes.{event_next, just_before, last_of, words_of_change}
use Rattle.s360_inquiry.specs.Extents.{extent_name, extent_words, is_in, runs_of}
use Rattle.s360_inquiry.specs.Searches.{numbers_since}
use Rattle.s360_inquiry.specs.Stores.{just_after, stored_by, stores_into}

-- ---- which events read there

-- what stands at a place after an event was made of an extent
abbrev pub is_made_of : Machine → Event → Extent → Place → Bool
is_made_of m e extent p = list_any (is_in extent) (sources m e p)

-- those of some places of which this is so, in their order, each once
abbrev pub made_among : Machine → Event → Extent → List Place → List Place
made_among m e extent [] = []
made_among m e extent (p ∷ ps) =
    if is_made_of m e extent p then with_places (made_among m e extent ps) (p ∷ []) else made_among m e extent ps

-- the places that an event stores and makes of an extent
unfoldable pub made_by : Machine → Event → Extent → List Place
made_by m e extent = made_among m e extent (stored_by m e)

abbrev pub is_decided_by : Machine → Event → Extent → Bool
is_decided_by m e extent = list_any (is_in extent) (deciders m e)

abbrev pub has_some : List Place → Bool
has_some [] = false
has_some (p ∷ ps) = true

-- the next event of a record reads a place of an extent, and the event of a change
unfoldable pub reads_next : Extent → Recorded → Bool
reads_next extent r =
    is_decided_by (machine_of (session_of r)) (event_next r) extent || has_some (made_by (machine_of (session_of r)) (event_next r) extent)

abbrev pub reads_from : Extent → Recorded → ℕ → Bool
reads_from extent r number = reads_next extent (with_standing r (number - 1))

-- ---- the lines of a reader: its event; and what it made of the extent, with the value after it, or that it was decided by it

abbrev pub made_next : Extent → Recorded → List Extent
made_next extent r = runs_of (made_by (machine_of (session_of r)) (event_next r) extent)

abbrev pub made_line : Machine → Extent → List ℕ
made_line m made = extent_name made ++ extent_words m made ++ codes "\n"

abbrev pub made_lines : Machine → List Extent → List ℕ
made_lines m [] = codes "decides\n"
made_lines m (made ∷ others) = flat_map (made_line m) (made ∷ others)

abbrev pub reader_text : Recorded → Extent → ℕ → List ℕ
reader_text r extent number =
    (words_of_change r number ++ codes "\n")
    ++ made_lines (machine_of (session_of (just_after r number))) (made_next extent (just_before r number))

-- the last readers of an extent since the last store there, so many at most, the oldest first
abbrev pub told_readers : Recorded → Extent → List ℕ → List ℕ
told_readers r extent [] = codes "readers none" ++ codes "\n"
told_readers r extent (number ∷ numbers) = flat_map (reader_text r extent) (number ∷ numbers)

abbrev pub readers_text : Recorded → Extent → ℕ → List ℕ
readers_text r extent most = told_readers r extent (last_of most (numbers_since (stores_into extent r) (reads_from extent r) r.standing))
