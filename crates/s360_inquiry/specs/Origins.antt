-- Where a value comes from (own profile): the event that stored it last, also an equal value, or the start.
use Rattle.std.specs.Prelude.{ℕ, Bool, true, false, nat_eq, if◌then◌else◌, Option, Some, None, List, [], ◌∷◌, ◌++◌, codes, map}
use Rattle.s360_text.specs.Counts.{counted}
use Rattle.s360_store.specs.declared.place.Place.{Place}
use Rattle.s360_store.specs.declared.place.Place.TheVariants.{Psw, UnitMedia}
use Rattle.s360_machine.specs.declared.event_kind.EventKind.{EventKind}
use Rattle.s360_machine.specs.declared.event_kind.EventKind.TheVariants.{Patch as patched}
use Rattle.s360_journal.specs.Recorded.{Recorded}
use Rattle.s360_inquiry.specs.declared.extent.Extent.{Extent}
use Rattle.s360_inquiry.specs.declared.cause.Cause.{Cause}
use Rattle.s360_inquiry.specs.declared.cause.Sourced.{Sourced}
use Rattle.s360_inquiry.specs.declared.origin.Origin.{Origin}
use Rattle.s360_inquiry.specs.declared.origin.Origin.TheVariants.{NotFollowed, Start, Patch, Event}
use Rattle.s360_inquiry.specs.Changes.{kind_of_change}
use Rattle.s360_inquiry.specs.Extents.{extent_name, extent_of, extent_with}
use Rattle.s360_inquiry.specs.Searches.{last_up_to}
use Rattle.s360_inquiry.specs.Stores.{stores_into}

-- the last standing event that stored there, if one did
abbrev pub last_store : Recorded → Place → Option ℕ
last_store r place = last_up_to (stores_into (extent_of place) r) r.standing

abbrev pub is_patch : Option EventKind → Bool
is_patch (Some (patched kind)) = true
is_patch other = false

abbrev pub origin_of_event : ℕ → Option EventKind → Origin
origin_of_event number kind = if is_patch kind then Patch number else Event number

abbrev pub origin_by : Recorded → Option ℕ → Origin
origin_by r None = Start
origin_by r (Some number) = origin_of_event number (kind_of_change r number)

-- the PSW and a device are told and not followed: each instruction alters the one, and each command the other
abbrev pub is_followed : Place → Bool
is_followed Psw = false
is_followed (UnitMedia unit) = false
is_followed place = true

abbrev pub origin_in : Recorded → Place → Origin
origin_in r place = if is_followed place then origin_by r (last_store r place) else NotFollowed

-- ---- successive bytes of one origin are told together

abbrev pub same_origin : Origin → Origin → Bool
same_origin NotFollowed NotFollowed = true
same_origin Start Start = true
same_origin (Patch n) (Patch k) = nat_eq n k
same_origin (Event n) (Event k) = nat_eq n k
same_origin one other = false

abbrev pub sourced : (Place → Origin) → Place → Sourced
sourced origin place = record { place = place; origin = origin place }

abbrev pub cause_of : Sourced → Cause
cause_of s = record { extent = extent_of s.place; origin = s.origin }

abbrev pub joined : Sourced → Cause → Option Extent
joined s next = if same_origin s.origin next.origin then extent_with s.place next.extent else None

abbrev pub put_before : Sourced → Option Extent → Cause → List Cause → List Cause
put_before s (Some together) next causes = record { extent = together; origin = s.origin } ∷ causes
put_before s None next causes = cause_of s ∷ (next ∷ causes)

abbrev pub with_source : Sourced → List Cause → List Cause
with_source s [] = cause_of s ∷ []
with_source s (next ∷ causes) = put_before s (joined s next) next causes

-- the causes of some places, in their order
abbrev pub causes_from : List Sourced → List Cause
causes_from [] = []
causes_from (s ∷ ss) = with_source s (causes_from ss)

-- ---- in words

-- behind its name stands the number of the event in parentheses, or what a person knows
abbrev pub origin_words : Origin → List ℕ
origin_words NotFollowed = []
origin_words Start = codes " from the start"
origin_words (Patch number) = counted (codes " by patch ") number
origin_words (Event number) = counted (codes " (") number ++ codes ")"

abbrev pub cause_words : Cause → List ℕ
cause_words c = extent_name c.extent ++ origin_words c.origin

abbrev pub cause_items : List Cause → List (List ℕ)
cause_items [] = []
cause_items (c ∷ cs) = (codes " of " ++ cause_words c) ∷ map (λ (x : Cause). codes ", " ++ cause_words x) cs
