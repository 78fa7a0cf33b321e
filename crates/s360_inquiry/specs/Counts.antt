-- How many changes altered places (own profile): one that altered several of them counts once.
use Rattle.std.specs.Prelude.{ℕ, List, [], ◌++◌, codes, flat_map, fold, length}
use Rattle.std.specs.BTreeSet.{insert_key}
use Rattle.std.specs.Ordering.{nat_cmp}
use Rattle.s360_text.specs.Counts.{counted}
use Rattle.s360_store.specs.declared.place.Place.{Place}
use Rattle.s360_machine.specs.Machine.{seen}
use Rattle.s360_journal.specs.Rerun.{changes_of}
use Rattle.s360_journal.specs.Recorded.{Recorded, standing_events}
use Rattle.s360_inquiry.specs.declared.extent.Extent.{Extent}
use Rattle.s360_inquiry.specs.declared.extent.Extent.TheVariants.{Place as Alone}
use Rattle.s360_inquiry.specs.Extents.{places_of_extent}

-- the numbers of the standing changes of a place, and more numbers beside some, each once
abbrev pub numbers_of : Recorded → Place → List ℕ
numbers_of r place = changes_of (seen r.start) (standing_events r) place

abbrev pub with_numbers : List ℕ → List ℕ → List ℕ
with_numbers numbers more = fold (insert_key nat_cmp) numbers more

-- how many altered an extent
abbrev pub count_of_changes : Recorded → Extent → ℕ
count_of_changes r (Alone place) = length (numbers_of r place)
count_of_changes r extent = length (with_numbers [] (flat_map (numbers_of r) (places_of_extent extent)))

abbrev pub count_text : Recorded → Extent → List ℕ
count_text r extent = counted (codes "changes ") (count_of_changes r extent) ++ codes "\n"
