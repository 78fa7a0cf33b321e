-- What puts and a change make of a machine (kept).
use Rattle.std.specs.Prelude.{◌≡◌, ◌++◌, ◌∷◌, [], IfSome, Option, List}
use Rattle.s360_model.specs.Exchanges.{CanIfAny, after_if_any, back_if_any, need_if_any}
use Rattle.s360_machine.specs.declared.beside.Beside.{Beside}
use Rattle.s360_machine.specs.ControlCells.{ControlCell, control_cells, HasEachControlOnce, control_after_exchange, places_of_control}
use Rattle.s360_model.specs.Core.{Core}
use Rattle.s360_machine.specs.declared.media.MediaChange.{MediaChange}
use Rattle.s360_channel.specs.UnitChanges.{IsUnitsChangeTo}
use Rattle.s360_channel.specs.declared.configured_unit.ConfiguredUnit.{ConfiguredUnit}
use Rattle.s360_channel.specs.Execution.{Run}
use Rattle.s360_channel.specs.Steps.{LiesIn}
use Rattle.s360_machine.specs.ChannelEvents.{after_channel, execution_at}
use Rattle.s360_machine.specs.declared.operator.Key.{Key as OperatorKey}
use Rattle.s360_machine.specs.Operator.{media_after_key}
use Rattle.s360_machine.specs.Differences.{control_differences, differences, media_differences}
use Rattle.s360_machine.specs.Machine.{Machine, Media, Spare, Whole, WholeMedia, Control, seen, seen_media}
use Rattle.s360_machine.specs.Change.{Change, CanSwap, HasRoom, NeedsNoRoom, after_swap, change_after_swap, places_of_change}
use Rattle.s360_machine.specs.IoChanges.{CanSwapMedia, media_after_swap, media_change_after_swap, media_needs, places_of_media}

-- the control cells make the second control part of the first, and have just the places at which
-- the two differ
pub record IsControlChangeTo (c : Control) (xs : List ControlCell) (d : Control) : Type 0 where
  pub once : HasEachControlOnce xs
  pub makes : control_after_exchange c xs ≡ d
  pub lists : places_of_control xs ≡ control_differences c d

-- the change makes devices of which the media are seen, is just that of the device that differs as it is seen, and
-- wants no room to be taken back
pub record IsMediaChangeTo (m : WholeMedia) (x : Option MediaChange) (n : Media) : Type 0 where
  pub can : CanIfAny CanSwapMedia m x
  pub makes : seen_media (after_if_any media_after_swap m x) ≡ n
  pub lists : places_of_media x ≡ media_differences (seen_media m) n
  pub back : need_if_any media_needs (back_if_any media_change_after_swap m x) ≡ 0

-- it does so to what an operator's key does
abbrev pub IsChangeByKey : WholeMedia → OperatorKey → Option MediaChange → Type 0
IsChangeByKey m key x = IsMediaChangeTo m x (media_after_key key (seen_media m))

-- what stands beside the core makes the other parts of a machine out of those of a whole
pub record MakesOthers (w : Whole) (b : Beside) (n : Machine) : Type 0 where
  pub control : IsControlChangeTo w.control (control_cells b.control) n.control
  pub units : IsUnitsChangeTo w.units b.units n.units
  pub media : IsMediaChangeTo w.media b.media n.media

-- it leaves them
abbrev pub LeavesOthers : Whole → Beside → Type 0
LeavesOthers w b = MakesOthers w b (seen w)

-- puts make the core of a machine out of that of a whole, and may be made in it, and what stands beside makes the rest
pub record PutsMachine (w : Whole) (made : Core → Core) (may : Core → Type 0) (b : Beside) (n : Machine) : Type 0 where
  pub core : made w.core ≡ n.core
  pub allowed : may w.core
  pub others : MakesOthers w b n

-- the machine is the one that a rule makes of it
abbrev pub PutsAfter : Whole → (Core → Core) → (Core → Type 0) → Beside → (Machine → Machine) → Type 0
PutsAfter w made may b after = PutsMachine w made may b (after (seen w))

-- a run that a channel event of a unit stores, and what stands beside the core, make the machine after what the unit
-- executes
pub record ExecutesAt (w : Whole) (u : ConfiguredUnit) (b : Beside) (run : Option Run) : Type 0 where
  pub stores : run ≡ (execution_at u (seen w)).stores
  pub inside : IfSome run (λ r. LiesIn w.core.storage r)
  pub others : MakesOthers w b (after_channel u (seen w))

-- the change makes a whole of which the machine is seen, lists the places at which the machines
-- differ, and wants no room to be taken back
pub record IsChangeTo (w : Whole) (x : Change) (n : Machine) : Type 0 where
  pub can : CanSwap w x
  pub makes : seen (after_swap w x) ≡ n
  pub lists : places_of_change x ≡ differences (seen w) n
  pub back : NeedsNoRoom (change_after_swap w x)

-- a list has one change more, which makes a machine of which the second is seen, and has room for it
pub record AppendsChangeTo (w : Whole) (s : Spare) (xs ys : List Change) (n : Machine) : Type 0 where
  pub change : Change
  pub appended : ys ≡ xs ++ change ∷ []
  pub change_to : IsChangeTo w change n
  pub room : HasRoom s change
