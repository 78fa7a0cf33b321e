-- The places that a value was made of, by their names (own profile): in their order, each once, of successive bytes the first and
-- the last.
use Rattle.std.specs.Prelude.{ℕ, List, [], ◌++◌, codes, flat_map}
use Rattle.s360_store.specs.declared.place.Place.{Place}
use Rattle.s360_machine.specs.declared.event.Event.{Event}
use Rattle.s360_machine.specs.Machine.{Machine}
use Rattle.s360_footprint.specs.EventRows.{sources}
use Rattle.s360_inquiry.specs.declared.extent.Extent.{Extent}
use Rattle.s360_inquiry.specs.Causes.{with_places}
use Rattle.s360_inquiry.specs.Extents.{extent_name, runs_of}

-- the name of a run, or of a place alone, after a blank
abbrev pub blank_and_name : Extent → List ℕ
blank_and_name run = codes " " ++ extent_name run

-- what an event makes the value of a place of
unfoldable pub sources_words : Machine → Event → Place → List ℕ
sources_words m e place = flat_map blank_and_name (runs_of (with_places [] (sources m e place)))
