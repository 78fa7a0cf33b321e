-- What the last change of a place, the breakpoints and the last stop are, in other words than those of their
-- definitions.
use Rattle.std.specs.Prelude.{◌≡◌, ◌≢◌, ◌<◌, ◌≤◌, ◌+◌, ◌↔◌, ◌⊎◌, ℕ, zero, suc, true, false, List, [], ◌∷◌, length, take, Option, Some, None, Ok, Contains}
use Rattle.s360_store.specs.declared.place.Place.{Place}
use Rattle.s360_machine.specs.declared.event.Event.{Event}
use Rattle.s360_machine.specs.Machine.{Machine, seen, storage_size}
use Rattle.s360_machine.specs.Step.{after, step}
use Rattle.s360_journal.specs.Breakpoints.{AreBreakpoints, has_address, has_room_for, with_address, without_address, is_at_breakpoint}
use Rattle.s360_journal.specs.Recorded.{Recorded, after_events}
use Rattle.s360_journal.specs.Rerun.{AreAccepted, rerun, alters, last_change_of}
use Rattle.s360_journal.specs.Returning.{one_back}
use Rattle.s360_journal.specs.Running.{WhereToStop, run_in}
use Rattle.s360_journal.specs.declared.running.Reach.{Reach}
use Rattle.s360_journal.specs.declared.running.Turn.TheVariants.{Next}
use Rattle.s360_journal.specs.Stops.{stop_of}

-- the event of this index, counted from 0, alters the place
abbrev pub IsAltered : Machine → List Event → Place → ℕ → Type 0
IsAltered m [] p i = ⊥
IsAltered m (e ∷ es) p zero = alters m e p ≡ true
IsAltered m (e ∷ es) p (suc i) = IsAltered (after m e) es p i

-- the number, where events are numbered from this one on, is the greatest of an event that alters the place;
-- none is where none does
abbrev pub IsGreatestFrom : ℕ → Machine → List Event → Place → Option ℕ → Type 0
IsGreatestFrom first m es p None = (i : ℕ) → IsAltered m es p i → ⊥
IsGreatestFrom first m es p (Some n) = (i : ℕ) × (n ≡ first + i) × IsAltered m es p i × ((j : ℕ) → i < j → IsAltered m es p j → ⊥)

-- the last change of a place is the greatest number of a change that alters it, counted from 1
abbrev pub LastChangeIsTheGreatest : Type 0
LastChangeIsTheGreatest = (m : Machine) (es : List Event) (p : Place) → IsGreatestFrom 1 m es p (last_change_of m es p)

-- the breakpoints are a set of at most 64 addresses
pub record BreakpointsAreASet : Type 0 where
  -- an address is found just where it is one of them
  pub found : (breaks : List ℕ) (a : ℕ) → (has_address breaks a ≡ true) ↔ Contains breaks a
  -- it is refused just where 64 others are set
  pub refused : (breaks : List ℕ) (a : ℕ) → AreBreakpoints breaks → (has_room_for breaks a ≡ false) ↔ ((length breaks ≡ 64) × (Contains breaks a → ⊥))
  -- a refused one changes nothing; any other is then one of them, beside those before
  pub unchanged : (breaks : List ℕ) (a : ℕ) → has_room_for breaks a ≡ false → with_address breaks a ≡ breaks
  pub added : (breaks : List ℕ) (a b : ℕ) → has_room_for breaks a ≡ true → Contains (with_address breaks a) b ↔ ((b ≡ a) ⊎ Contains breaks b)
  -- one that is removed is none of them, and each other stays
  pub removed : (breaks : List ℕ) (a b : ℕ) → Contains (without_address breaks a) b ↔ ((b ≢ a) × Contains breaks b)
  -- no two are the same, and they are at most 64: at first, and after each of these
  pub at_first : AreBreakpoints []
  pub after_add : (breaks : List ℕ) (a : ℕ) → AreBreakpoints breaks → AreBreakpoints (with_address breaks a)
  pub after_remove : (breaks : List ℕ) (a : ℕ) → AreBreakpoints breaks → AreBreakpoints (without_address breaks a)

-- an event that is not refused in one machine is refused in no machine of that storage size
abbrev pub RefusalDependsOnTheSize : Type 0
RefusalDependsOnTheSize = (m n : Machine) (e : Event) → storage_size m ≡ storage_size n → step m e ≡ Ok (after m e) → step n e ≡ Ok (after n e)

-- after so many of the events, but not all, the CPU operates at a breakpoint
abbrev pub IsStop : Machine → List Event → List ℕ → ℕ → Type 0
IsStop start es breaks k = (k < length es) × (is_at_breakpoint (rerun start (take k es)) breaks ≡ true)

-- the last stop is the greatest, or 0 where none is greater
abbrev pub LastStopIsTheGreatest : Type 0
LastStopIsTheGreatest =
    (start : Machine) (es : List Event) (breaks : List ℕ)
    → (IsStop start es breaks (stop_of start es breaks) ⊎ (stop_of start es breaks ≡ 0))
    × ((k : ℕ) → stop_of start es breaks < k → IsStop start es breaks k → ⊥)

-- what was taken back is run again by the next turn, which leads to the very record that was
abbrev pub TurnRunsAgain : Type 0
TurnRunsAgain =
    (stops : WhereToStop) (reach : Reach) (r : Recorded)
    → AreAccepted (seen r.start) r.events → length r.events ≤ r.limit → 0 < r.standing → r.standing ≤ length r.events
    → after_events (one_back r) (run_in stops Next reach (one_back r) 1).events ≡ r
