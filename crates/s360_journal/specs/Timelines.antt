-- Events that were recorded: those that stand, and the rest, with memory for some more (kept).
use Rattle.std.specs.Option.{option_map_or}
use Rattle.std.specs.Prelude.{◌≡◌, ◌<◌, ◌++◌, ℕ, Bool, true, false, if◌then◌else◌, List, [], ◌∷◌, drop, length, slice_get}
use Rattle.s360_machine.specs.declared.event.Event.{Event}
use Rattle.s360_machine.specs.declared.event.Event.TheVariants.{Channel, Key, Patch as patch}
use Rattle.s360_machine.specs.declared.operator.Key.TheVariants.{Load}
use Rattle.s360_journal.specs.Same.{same_event}

-- an event of which the unit stands apart
abbrev pub carries_unit : Event → Bool
carries_unit (Channel u) = true
carries_unit (Key (Load u)) = true
carries_unit e = false

-- an event that stands apart whole
abbrev pub stands_apart : Event → Bool
stands_apart (Key (Load u)) = false
stands_apart (Key k) = true
stands_apart (patch p) = true
stands_apart e = false

-- how many events more there is memory for: any, those with a unit apart, and those that stand apart whole
pub record Spare : Type 0 where
  pub events : ℕ
  pub units : ℕ
  pub others : ℕ

pub record Timeline : Type 0 where
  pub standing : List Event
  pub rest : List Event
  pub spare : Spare

-- there is memory for the event
pub record HasRoomFor (e : Event) (spare : Spare) : Type 0 where
  pub event : 0 < spare.events
  pub unit : carries_unit e ≡ true → 0 < spare.units
  pub whole : stands_apart e ≡ true → 0 < spare.others

-- an event is the first of the rest
abbrev pub is_first : List Event → Event → Bool
is_first rest e = option_map_or (λ f. same_event f e) (slice_get rest 0) false

-- how many events were dropped last, where the rest is dropped now
abbrev pub dropped_with : List Event → ℕ → ℕ
dropped_with [] before = before
dropped_with (e ∷ es) before = length (e ∷ es)

-- the rest, and how many events were dropped last, once an event came to stand
abbrev pub rest_after : List Event → Event → List Event
rest_after rest e = if is_first rest e then drop 1 rest else []

abbrev pub dropped_after : List Event → Event → ℕ → ℕ
dropped_after rest e before = if is_first rest e then before else dropped_with rest before

-- an event came to stand
pub record IsNoted (e : Event) (old : Timeline) (before : ℕ) (new : Timeline) (after : ℕ) : Type 0 where
  pub standing : new.standing ≡ old.standing ++ e ∷ []
  pub rest : new.rest ≡ rest_after old.rest e
  pub dropped : after ≡ dropped_after old.rest e before
