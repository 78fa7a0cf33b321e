-- The chain of causes of a value (own profile): the event that stored it last, what that made it of, and so on, the nearest first.
use Rattle.std.specs.Prelude.{◌≡◌, ℕ, zero, suc, ◌+◌, ◌-◌, Bool, ◌&&◌, nat_eq, nat_lt, if◌then◌else◌, Option, Some, None, List, [], ◌∷◌, ◌++◌, codes}
use Rattle.std.specs.Prelude.{flat_map, fold, length, map, min, slice_get}
use Rattle.std.specs.BTreeSet.{insert_key}
use Rattle.std.specs.List.{list_any}
use Rattle.std.specs.Option.{option_map_or}
use Rattle.std.specs.declared.cmp.Ordering.{Ordering}
use Rattle.std.specs.declared.cmp.Ordering.TheVariants.{Less, Greater}
use Rattle.std.specs.Ordering.{match_ordering, nat_cmp}
use Rattle.s360_text.specs.Counts.{counted}
use Rattle.s360_store.specs.declared.place.Place.{Place}
use Rattle.s360_store.specs.declared.place.Place.TheVariants.{Psw}
use Rattle.s360_store.specs.Order.{kind_of, number_of}
use Rattle.s360_machine.specs.declared.event.Event.{Event as MachineEvent}
use Rattle.s360_machine.specs.Machine.{Machine}
use Rattle.s360_journal.specs.Standing.{machine_of}
use Rattle.s360_journal.specs.Recorded.{Recorded, session_of, with_standing}
use Rattle.s360_footprint.specs.EventRows.{deciders, sources}
use Rattle.s360_inquiry.specs.declared.cause.Cause.{Cause}
use Rattle.s360_inquiry.specs.declared.extent.Extent.{Extent}
use Rattle.s360_inquiry.specs.declared.inquiry.Detail.{Detail}
use Rattle.s360_inquiry.specs.declared.inquiry.Detail.TheVariants.{Brief, Full}
use Rattle.s360_inquiry.specs.declared.making.LastStore.{LastStore}
use Rattle.s360_inquiry.specs.declared.making.Making.{Making}
use Rattle.s360_inquiry.specs.declared.node.Node.{Node}
use Rattle.s360_inquiry.specs.declared.origin.Origin.{Origin}
use Rattle.s360_inquiry.specs.declared.telling.Telling.{Telling}
use Rattle.s360_inquiry.specs.declared.origin.Origin.TheVariants.{NotFollowed, Start, Event}
use Rattle.s360_inquiry.specs.Changes.{event_next, just_before, last_change_in, machine_after, words_of_change}
use Rattle.s360_inquiry.specs.Extents.{extent_name, extent_of, extent_words, places_of_extent, same_extent}
use Rattle.s360_inquiry.specs.Fitting.{fitted}
use Rattle.s360_inquiry.specs.Origins.{cause_items, causes_from, last_store, origin_in, sourced}
use Rattle.s360_inquiry.specs.Tellings.{IsTold, most_lines, told_lines}

-- ---- what an event made an extent of, and what decided the event

-- two places by their kind, and within a kind by their number
abbrev pub order_of : Place → Place → Ordering
order_of p q = match_ordering (nat_cmp (kind_of p) (kind_of q)) Less (nat_cmp (number_of p) (number_of q)) Greater

-- more places beside some, in their order, each once
abbrev pub with_places : List Place → List Place → List Place
with_places places more = fold (insert_key order_of) places more

-- the places that an event makes those of an extent of; and those that decide the event
unfoldable pub places_before : Machine → MachineEvent → Extent → List Place
places_before m e extent = with_places [] (flat_map (sources m e) (places_of_extent extent))

unfoldable pub places_deciding : Machine → MachineEvent → List Place
places_deciding m e = with_places [] (deciders m e)

-- those of the next event of a record, and of the event of a number
abbrev pub sources_next : Recorded → Extent → List Place
sources_next r extent = places_before (machine_of (session_of r)) (event_next r) extent

abbrev pub sources_of : Recorded → ℕ → Extent → List Place
sources_of r number extent = sources_next (just_before r number) extent

-- with where they come from, as it stood before the event
abbrev pub causes_of : Recorded → ℕ → Extent → List Cause
causes_of r number extent = causes_from (map (sourced (origin_in (just_before r number))) (sources_of r number extent))

-- a decider comes from the last change of it, and is told with that change's number, if one made it; the PSW with its value
abbrev pub origin_by_change : Option ℕ → Origin
origin_by_change None = Start
origin_by_change (Some number) = Event number

abbrev pub decider_origin : Recorded → Place → Origin
decider_origin r Psw = NotFollowed
decider_origin r place = origin_by_change (last_change_in r place)

abbrev pub decider_words : Recorded → Cause → Origin → List ℕ
decider_words r c NotFollowed = extent_words (machine_of (session_of r)) c.extent
decider_words r c (Event number) = counted (codes " (") number ++ codes ")"
decider_words r c origin = []

abbrev pub decider_item : Recorded → Cause → List ℕ
decider_item r c = codes " " ++ extent_name c.extent ++ decider_words r c c.origin

abbrev pub deciders_next : Recorded → List (List ℕ)
deciders_next r =
    map (decider_item r) (causes_from (map (sourced (decider_origin r)) (places_deciding (machine_of (session_of r)) (event_next r))))

abbrev pub deciders_of : Recorded → ℕ → List (List ℕ)
deciders_of r number = deciders_next (just_before r number)

-- ---- the lines of a node: its event, what that made with its value, and of what; in full also what decided the event

abbrev pub node_head : Recorded → ℕ → Extent → List ℕ
node_head r number extent = words_of_change r number ++ codes ": " ++ extent_name extent ++ extent_words (machine_after r number) extent

abbrev pub brief_line : List ℕ → List (List ℕ) → List ℕ
brief_line head items = (head ++ fitted (length head) items) ++ codes "\n"

abbrev pub full_line : List ℕ → List (List ℕ) → List ℕ
full_line head items = (head ++ flat_map (λ item. item) items) ++ codes "\n"

abbrev pub decided_line : List (List ℕ) → List ℕ
decided_line [] = []
decided_line (item ∷ items) = full_line (codes "  decided by") (item ∷ items)

abbrev pub lines_in : Detail → List ℕ → List (List ℕ) → List (List ℕ) → List ℕ
lines_in Brief head causes deciders = brief_line head causes
lines_in Full head causes deciders = full_line head causes ++ decided_line deciders

abbrev pub node_text : Recorded → Detail → ℕ → Extent → List ℕ
node_text r detail number extent = lines_in detail (node_head r number extent) (cause_items (causes_of r number extent)) (deciders_of r number)

-- ---- the chain: each node once, the nearest first

-- an event made a cause: then that is a node, which is told so deep
abbrev pub node_from : ℕ → Extent → Origin → List Node
node_from depth extent (Event number) = record { number = number; extent = extent; depth = depth } ∷ []
node_from depth extent origin = []

abbrev pub node_of : ℕ → Cause → List Node
node_of depth c = node_from depth c.extent c.origin

abbrev pub nodes_of : ℕ → List Cause → List Node
nodes_of depth causes = if nat_lt 1 depth then flat_map (node_of (depth - 1)) causes else []

abbrev pub is_node : Node → Node → Bool
is_node one other = nat_eq one.number other.number && same_extent one.extent other.extent

-- nodes are put behind those that are known, each once
abbrev pub with_node : List Node → Node → List Node
with_node known node = if list_any (is_node node) known then known else known ++ node ∷ []

abbrev pub with_nodes : List Node → List Node → List Node
with_nodes known more = fold with_node known more

-- those that are known once a node is told, and those below it, one level less deep, are known too
abbrev pub known_after : Recorded → List Node → ℕ → Extent → ℕ → List Node
known_after r known number extent depth = with_nodes known (nodes_of depth (causes_of r number extent))

-- the texts of nodes, so many at most. Of those that are known the first so many are told: the next is told, and those below it are known then
abbrev pub node_texts : ℕ → Recorded → Detail → List Node → ℕ → List (List ℕ)
node_texts zero r detail known told = []
node_texts (suc left) r detail known told =
    option_map_or
    (λ (node : Node). node_text r detail node.number node.extent ∷ node_texts left r detail (known_after r known node.number node.extent node.depth) (told + 1))
    (slice_get known told) []

-- a node is told behind other lines
abbrev pub TellsNode : Recorded → Detail → ℕ → Extent → Telling → Telling → Type 0
TellsNode r detail number extent t u = (lines : List (List ℕ)) → IsTold lines t → IsTold (lines ++ node_text r detail number extent ∷ []) u

-- so many of the nodes that are known are told, and with those that are told still they are the whole chain
abbrev pub IsChain : Recorded → Detail → Node → List Node → ℕ → Telling → Type 0
IsChain r detail first known told t =
    (lines : List (List ℕ))
    × IsTold lines t
    × (lines ++ node_texts (most_lines + 1 - told) r detail known told ≡ node_texts (most_lines + 1) r detail (first ∷ []) 0)

-- so deep is a chain followed at most
abbrev pub most_depth : ℕ
most_depth = 100

-- the place that is asked for is followed whatever place it is; one that no event stored into is as at the start
abbrev pub why_text_from : Recorded → Place → ℕ → Detail → Option ℕ → List ℕ
why_text_from r place depth detail None =
    extent_name (extent_of place) ++ extent_words (machine_of (session_of r)) (extent_of place) ++ codes " from the start\n"
why_text_from r place depth detail (Some number) =
    told_lines (node_texts (most_lines + 1) (with_standing r 0) detail (record { number = number; extent = extent_of place; depth = depth } ∷ []) 0)

abbrev pub why_text : Recorded → Place → ℕ → Detail → List ℕ
why_text r place depth detail = why_text_from r place (min depth most_depth) detail (last_store r place)

-- ---- what was noted of a recording

-- of an event and an extent that it made: the head of its line, the places that it was made of, and the event's deciders
pub record IsMaking (r : Recorded) (m : Making) : Type 0 where
  pub head : m.head ≡ node_head r m.number m.extent
  pub places : m.places.items ≡ sources_of r m.number m.extent
  pub deciders : m.deciders.items ≡ deciders_of r m.number

-- of a place and a moment: where its value came from
abbrev pub IsStore : Recorded → LastStore → Type 0
IsStore r s = s.origin ≡ origin_in (with_standing r s.moment) s.place
