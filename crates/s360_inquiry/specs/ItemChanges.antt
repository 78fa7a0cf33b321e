-- The last change of an item of a unit's media (own profile).
use Rattle.std.specs.Prelude.{ℕ, ◌-◌, Bool, not, nat_eq, if◌then◌else◌, Option, Some, None, List, [], ◌∷◌, ◌++◌, codes}
use Rattle.std.specs.Cmp.Lexicographic.{pointwise}
use Rattle.s360_model.specs.Text.{decimal, hex_text}
use Rattle.s360_word.specs.declared.unit.Unit.{Unit}
use Rattle.s360_store.specs.declared.place.Place.TheVariants.{UnitMedia}
use Rattle.s360_machine.specs.Machine.{Machine, seen}
use Rattle.s360_journal.specs.Recorded.{Recorded, standing_events}
use Rattle.s360_journal.specs.Rerun.{changes_of, or_else}
use Rattle.s360_language.specs.declared.show_items.ItemForm.TheVariants.{OnItsLine, InRows}
use Rattle.s360_language.specs.ShownItems.{item_text}
use Rattle.s360_inquiry.specs.Changes.{machine_after, words_of_change}

-- an item in whole
abbrev pub whole_item : Machine → Unit → ℕ → List ℕ
whole_item m unit item = item_text InRows m unit item

-- the change of a number alters it: after it `dump` tells something else of the item than before
abbrev pub alters_item : Recorded → Unit → ℕ → ℕ → Bool
alters_item r unit item number =
    not (pointwise nat_eq (whole_item (machine_after r (number - 1)) unit item) (whole_item (machine_after r number) unit item))

-- the last of some numbers that something holds of
abbrev pub last_that : (ℕ → Bool) → List ℕ → Option ℕ
last_that holds [] = None
last_that holds (n ∷ numbers) = or_else (last_that holds numbers) (if holds n then Some n else None)

abbrev pub last_change_of_item : Recorded → Unit → ℕ → Option ℕ
last_change_of_item r unit item = last_that (alters_item r unit item) (changes_of (seen r.start) (standing_events r) (UnitMedia unit))

-- its event, and the item on its line as the event left it
abbrev pub item_change_text : Recorded → Unit → ℕ → ℕ → List ℕ
item_change_text r unit item number =
    (words_of_change r number ++ codes "\nm " ++ hex_text 3 unit.0 ++ codes " " ++ decimal item ++ codes " ")
    ++ item_text OnItsLine (machine_after r number) unit item

abbrev pub who_item_text : Recorded → Unit → ℕ → Option ℕ → List ℕ
who_item_text r unit item None = codes "who none" ++ codes "\n"
who_item_text r unit item (Some number) = item_change_text r unit item number
