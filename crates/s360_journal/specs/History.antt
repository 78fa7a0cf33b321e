-- What the changes of the journal say of the whole machine, the newest of them first (kept).
use Rattle.std.specs.Prelude.{◌≡◌, List, [], ◌∷◌, Ok, length, reverse}
use Rattle.s360_machine.specs.declared.event.Event.{Event}
use Rattle.s360_machine.specs.Machine.{Whole, seen}
use Rattle.s360_machine.specs.Step.{step}
use Rattle.s360_machine.specs.Change.{CanSwap, Change, NeedsNoRoom, after_swap, places_of_change}
use Rattle.s360_machine.specs.Differences.{differences}

-- an event, and what takes it back
pub record Entry : Type 0 where
  pub event : Event
  pub changes : Change

-- events, each with the change of the same number
abbrev pub entries_of : List Event → List Change → List Entry
entries_of [] xs = []
entries_of (e ∷ es) [] = []
entries_of (e ∷ es) (x ∷ xs) = record { event = e; changes = x } ∷ entries_of es xs

-- the whole before the entries: all of them taken back
abbrev pub unwound : Whole → List Entry → Whole
unwound w [] = w
unwound w (x ∷ xs) = unwound (after_swap w x.changes) xs

-- each entry takes the whole back, with no room, to one from which its event led here, and lists what the
-- event altered
abbrev pub IsHistory : Whole → List Entry → Type 0
IsHistory w [] = Unit {0}
IsHistory w (x ∷ xs) =
    CanSwap w x.changes
    × NeedsNoRoom x.changes
    × (step (seen (after_swap w x.changes)) x.event ≡ Ok (seen w))
    × (places_of_change x.changes ≡ differences (seen (after_swap w x.changes)) (seen w))
    × IsHistory (after_swap w x.changes) xs

-- events with as many changes, in their order
abbrev pub AreHistory : Whole → List Event → List Change → Type 0
AreHistory w es xs = IsHistory w (reverse (entries_of es xs)) × (length es ≡ length xs)
