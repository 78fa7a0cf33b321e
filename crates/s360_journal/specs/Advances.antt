-- An event leads from one machine with its changes to another (kept).
use Rattle.std.specs.Prelude.{◌≡◌, ◌-◌, ◌++◌, List, [], ◌∷◌, Ok, IfSome, length, reverse, slice_get, slice_set}
use Rattle.s360_machine.specs.declared.event.Event.{Event}
use Rattle.s360_machine.specs.Change.{Change, change_after_swap}
use Rattle.s360_machine.specs.Machine.{Whole, seen}
use Rattle.s360_machine.specs.Packed.{IsSwapOf}
use Rattle.s360_machine.specs.Step.{step}
use Rattle.s360_journal.specs.History.{AreHistory, entries_of, unwound}

-- the last of the changes was exchanged with the machine
pub record IsMade (w v : Whole) (xs ys : List Change) : Type 0 where
  pub machine : IfSome (slice_get xs (length xs - 1)) (λ x. IsSwapOf w x v)
  pub changes : IfSome (slice_get xs (length xs - 1)) (λ x. ys ≡ slice_set xs (length xs - 1) (change_after_swap w x))

-- where the machine starts that events and their changes led to
abbrev pub start_of : Whole → List Event → List Change → Whole
start_of w es xs = unwound w (reverse (entries_of es xs))

-- a machine, and the changes that led to it
pub record Journaled : Type 0 where
  pub whole : Whole
  pub changes : List Change

-- events led there
abbrev pub AreLed : List Event → Journaled → Type 0
AreLed es j = AreHistory j.whole es j.changes

-- events and then one more led there, and the events alone led to another, from the same start
pub record LeadsAfter (es : List Event) (j : Journaled) (e : Event) (k : Journaled) : Type 0 where
  pub before : AreLed es j
  pub after : AreLed (es ++ e ∷ []) k
  pub start : start_of k.whole (es ++ e ∷ []) k.changes ≡ start_of j.whole es j.changes

-- the event leads from one to the other, whatever events led to the first
pub record LeadsOn (j : Journaled) (e : Event) (k : Journaled) : Type 0 where
  pub step : step (seen j.whole) e ≡ Ok (seen k.whole)
  pub history : (es : List Event) → AreLed es j → LeadsAfter es j e k

-- the last event that led to k is taken back, which leads to j
abbrev pub LedFrom : Journaled → Journaled → Type 0
LedFrom k j = (es : List Event) (e : Event) → AreLed (es ++ e ∷ []) k → (step (seen j.whole) e ≡ Ok (seen k.whole)) × LeadsAfter es j e k

-- two that are seen alike, and that the same events lead to from the same start
abbrev pub AreAlike : Journaled → Journaled → Type 0
AreAlike j k = (es : List Event) → AreLed es j → AreLed es k × (start_of k.whole es k.changes ≡ start_of j.whole es j.changes) × (seen k.whole ≡ seen j.whole)
