-- The stores into places (own profile): the events that store there, also where the value stays.
use Rattle.std.specs.Prelude.{ℕ, ◌-◌, Bool, false, nat_eq, if◌then◌else◌, Option, Some, None, is_some, List, [], ◌∷◌, ◌++◌, codes, flat_map}
use Rattle.std.specs.Prelude.{length, max, min}
use Rattle.std.specs.List.{list_any}
use Rattle.std.specs.Option.{option_map_or}
use Rattle.s360_store.specs.declared.place.Place.{Place}
use Rattle.s360_store.specs.declared.place.Place.TheVariants.{Byte}
use Rattle.s360_machine.specs.declared.event.Event.{Event}
use Rattle.s360_machine.specs.declared.refusal.Refusal.{Refusal}
use Rattle.s360_machine.specs.Machine.{Machine, storage_size}
use Rattle.s360_machine.specs.Refusals.{refusal_of}
use Rattle.s360_journal.specs.Standing.{machine_of}
use Rattle.s360_journal.specs.Recorded.{Recorded, session_of, with_standing}
use Rattle.s360_footprint.specs.EventRows.{stored}
use Rattle.s360_inquiry.specs.declared.extent.Extent.{Extent}
use Rattle.s360_inquiry.specs.declared.extent.Extent.TheVariants.{Bytes}
use Rattle.s360_inquiry.specs.Changes.{event_next, just_before, last_change_in, last_of, words_of_change}
use Rattle.s360_inquiry.specs.Extents.{extent_name, is_in, extent_of, extent_words, places_of_extent}
use Rattle.s360_inquiry.specs.Searches.{numbers_up_to}

-- ---- which events store there

-- the bytes from the first to the last of some places, or one place
abbrev pub spanned : Place → Option Extent → Extent
spanned (Byte at) (Some (Bytes first last)) = Bytes (min at first) (max at last)
spanned place span = extent_of place

-- those of the places that are in an extent, if one is
abbrev pub span_in : Extent → List Place → Option Extent
span_in extent [] = None
span_in extent (p ∷ ps) = if is_in extent p then Some (spanned p (span_in extent ps)) else span_in extent ps

-- a refused event stores nothing
abbrev pub stored_unless : Option Refusal → List Place → List Place
stored_unless None places = places
stored_unless (Some refusal) places = []

abbrev pub stored_by : Machine → Event → List Place
stored_by m e = stored_unless (refusal_of (storage_size m) e) (stored m e)

-- where the next event of a record stores, and what it stores in an extent
unfoldable pub stored_next : Recorded → List Place
stored_next r = stored_by (machine_of (session_of r)) (event_next r)

abbrev pub span_stored : Extent → Recorded → Option Extent
span_stored extent r = span_in extent (stored_next r)

-- the event of a change stores there
abbrev pub stores_into : Extent → Recorded → ℕ → Bool
stores_into extent r number = is_some (span_stored extent (with_standing r (number - 1)))

-- ---- the lines of a store: its event; and what it stored there, with the value before and after

abbrev pub just_after : Recorded → ℕ → Recorded
just_after r number = with_standing r (min number (length r.events))

-- the last change of one of the places is that of a number
abbrev pub is_last_change : Recorded → ℕ → Place → Bool
is_last_change r number place = option_map_or (nat_eq number) (last_change_in r place) false

abbrev pub is_altered : Recorded → ℕ → Extent → Bool
is_altered r number span = list_any (is_last_change r number) (places_of_extent span)

-- between both values stands `->`, or `=` where they are the same
abbrev pub span_line : Recorded → ℕ → Extent → List ℕ
span_line r number span =
    ((extent_name span ++ extent_words (machine_of (session_of (just_before r number))) span)
    ++ (if is_altered (just_after r number) number span then codes " ->" else codes " ="))
    ++ extent_words (machine_of (session_of (just_after r number))) span ++ codes "\n"

abbrev pub span_line_if : Recorded → ℕ → Option Extent → List ℕ
span_line_if r number None = []
span_line_if r number (Some span) = span_line r number span

abbrev pub store_text : Recorded → Extent → ℕ → List ℕ
store_text r extent number = (words_of_change r number ++ codes "\n") ++ span_line_if r number (span_stored extent (just_before r number))

-- the last stores into an extent, so many at most, the oldest first
abbrev pub told_stores : Recorded → Extent → List ℕ → List ℕ
told_stores r extent [] = codes "stores none" ++ codes "\n"
told_stores r extent (number ∷ numbers) = flat_map (store_text r extent) (number ∷ numbers)

abbrev pub stores_text : Recorded → Extent → ℕ → List ℕ
stores_text r extent most = told_stores r extent (last_of most (numbers_up_to (stores_into extent r) r.standing))
