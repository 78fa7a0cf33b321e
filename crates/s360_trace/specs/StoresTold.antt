-- The lines of an event (own profile): one of each place that it stores into, also an equal value, in the order of places; or one line
-- if it stores into none.
use Rattle.std.specs.Prelude.{ℕ, List, [], ◌∷◌, ◌++◌, codes, drop, flat_map, map}
use Rattle.s360_store.specs.declared.place.Place.{Place}
use Rattle.s360_machine.specs.declared.event.Event.{Event}
use Rattle.s360_machine.specs.Machine.{Machine}
use Rattle.s360_language.specs.Names.{place_name}
use Rattle.s360_language.specs.Values.{value_words}
use Rattle.s360_inquiry.specs.Causes.{with_places}
use Rattle.s360_inquiry.specs.Stores.{stored_by}
use Rattle.s360_trace.specs.declared.stores_told.Store.{Store}
use Rattle.s360_trace.specs.SourcesTold.{sources_words}

-- a store where its event meets the machine: the place, its value there, and what the value after it is made of
abbrev pub store_met : Machine → Event → Place → Store
store_met m e place = record { place = place; before = value_words m place; sources = sources_words m e place }

unfoldable pub stores_met : Machine → Event → List Store
stores_met m e = map (store_met m e) (with_places [] (stored_by m e))

-- words after a comma, in place of the blank before them
abbrev pub field : List ℕ → List ℕ
field words = codes "," ++ drop 1 words

-- the fields of the event; the place, its value before and after, and what that was made of
abbrev pub store_line : List ℕ → Machine → Store → List ℕ
store_line event after s =
    event ++ codes "," ++ place_name s.place ++ field s.before ++ field (value_words after s.place) ++ field s.sources ++ codes "\n"

abbrev pub lines_of : List ℕ → Machine → List Store → List ℕ
lines_of event after [] = event ++ codes ",,,,\n"
lines_of event after (s ∷ ss) = flat_map (store_line event after) (s ∷ ss)
