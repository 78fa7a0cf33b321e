-- What is noted of a recording while it goes back (ours).
use Rattle.std.specs.Prelude.{◌≡◌, ◌<◌, ℕ, ◌-◌, Bool, true, is_some, Some, List, All}
use Rattle.std.specs.List.{list_any}
use Rattle.std.specs.Ordering.{is_eq}
use Rattle.s360_store.specs.declared.place.Place.{Place}
use Rattle.s360_journal.specs.Recorded.{Recorded, with_standing}
use Rattle.s360_inquiry.specs.declared.gathering.Gathering.{Gathering}
use Rattle.s360_inquiry.specs.declared.gathering.Request.{Request}
use Rattle.s360_inquiry.specs.declared.making.LastStore.{LastStore}
use Rattle.s360_inquiry.specs.declared.origin.Origin.{Origin}
use Rattle.s360_inquiry.specs.Causes.{IsMaking, IsStore, order_of}
use Rattle.s360_inquiry.specs.Extents.{extent_of}
use Rattle.s360_inquiry.specs.Origins.{is_followed, origin_by}
use Rattle.s360_inquiry.specs.Searches.{last_up_to}
use Rattle.s360_inquiry.specs.Stores.{span_in, stored_next, stores_into}

-- a place is one of some keys in their order
abbrev pub has_key : List Place → Place → Bool
has_key keys place = list_any (λ key. is_eq (order_of place key)) keys

-- one of the places that an event stores into is wanted
abbrev pub is_wanted : List Place → List Place → Bool
is_wanted keys stored = list_any (has_key keys) stored

abbrev pub is_stored : List Place → Place → Bool
is_stored stored place = is_some (span_in (extent_of place) stored)

-- what is looked for is a place that is followed, and no event stored there since its moment but those that still stand
abbrev pub IsRequested : Recorded → ℕ → Request → Type 0
IsRequested r standing request =
    (is_followed request.place ≡ true)
    × (last_up_to (stores_into (extent_of request.place) r) standing ≡ last_up_to (stores_into (extent_of request.place) r) request.moment)

-- what is noted is so, and what is looked for is wanted, where so many events stand
pub record IsGathering (r : Recorded) (standing : ℕ) (g : Gathering) : Type 0 where
  pub makings : All (IsMaking r) g.makings.items
  pub stores : All (IsStore r) g.stores.items
  pub requests : All (IsRequested r standing) g.requests.items
  pub wanted : All (λ (request : Request). has_key g.wanted.keys request.place ≡ true) g.requests.items

-- what was noted where so many stood is noted where the recording stands
abbrev pub Gathers : Recorded → ℕ → Gathering → Gathering → Type 0
Gathers r before old new = IsGathering (with_standing r 0) before old → IsGathering (with_standing r 0) r.standing new

-- the event of a number stores into these places, and is this origin
pub record IsOfEvent (r : Recorded) (number : ℕ) (stored : List Place) (origin : Origin) : Type 0 where
  pub some : 0 < number
  pub places : stored ≡ stored_next (with_standing r (number - 1))
  pub is : origin ≡ origin_by r (Some number)

-- what is looked for, once it is found
abbrev pub store_of : Request → Origin → LastStore
store_of request origin = record { place = request.place; moment = request.moment; origin = origin }
