-- The places of the control part: a control cell is one of them with a value of it (kept). Control cells
-- are exchanged with the control part one after another: it gets their values, and they get what
-- stood there.
use Rattle.std.specs.Prelude.{◌≢◌, Bool, true, false, List, [], ◌∷◌, map}
use Rattle.s360_store.specs.declared.place.Place.{Place}
use Rattle.s360_store.specs.declared.place.Place.TheVariants.{Run, External}
use Rattle.s360_machine.specs.declared.external.ExternalConditions.{ExternalConditions}
use Rattle.s360_machine.specs.declared.run_state.RunState.{RunState}
use Rattle.s360_machine.specs.declared.control_change.ControlChange.{ControlChange}
use Rattle.s360_machine.specs.declared.control_change.ControlChange.TheVariants.{Neither, Run as OneRun, External as OneExternal, Both}
use Rattle.s360_machine.specs.Machine.{Control}

pub data ControlCell : Type 0 where
  run : RunState → ControlCell
  external : ExternalConditions → ControlCell

-- the cells of what an event alters, in the order of places
abbrev pub control_cells : ControlChange → List ControlCell
control_cells Neither = []
control_cells (OneRun state) = run state ∷ []
control_cells (OneExternal conditions) = external conditions ∷ []
control_cells (Both state conditions) = run state ∷ external conditions ∷ []

-- which of the two it is
abbrev pub has_run_state : ControlChange → Bool
has_run_state (OneRun state) = true
has_run_state (Both state conditions) = true
has_run_state other = false

abbrev pub has_external : ControlChange → Bool
has_external (OneExternal conditions) = true
has_external (Both state conditions) = true
has_external other = false

abbrev pub place_of_control : ControlCell → Place
place_of_control (run state) = Run
place_of_control (external conditions) = External

abbrev pub places_of_control : List ControlCell → List Place
places_of_control xs = map (λ x. place_of_control x) xs

-- the control part with a cell's value at its place
abbrev pub with_control : Control → ControlCell → Control
with_control c (run state) = record c { run_state = state }
with_control c (external conditions) = record c { external = conditions }

-- the cell of the same place with what stands there
abbrev pub control_at : Control → ControlCell → ControlCell
control_at c (run state) = run c.run_state
control_at c (external conditions) = external c.external

-- the control part after the exchange
abbrev pub control_after_exchange : Control → List ControlCell → Control
control_after_exchange c [] = c
control_after_exchange c (x ∷ xs) = control_after_exchange (with_control c x) xs

-- the cells after the exchange
abbrev pub control_cells_after_exchange : Control → List ControlCell → List ControlCell
control_cells_after_exchange c [] = []
control_cells_after_exchange c (x ∷ xs) = control_at c x ∷ control_cells_after_exchange (with_control c x) xs

-- no cell has the place
abbrev pub IsFreshControl : Place → List ControlCell → Type 0
IsFreshControl p [] = Unit {0}
IsFreshControl p (x ∷ xs) = (p ≢ place_of_control x) × IsFreshControl p xs

-- no place comes twice
abbrev pub HasEachControlOnce : List ControlCell → Type 0
HasEachControlOnce [] = Unit {0}
HasEachControlOnce (x ∷ xs) = IsFreshControl (place_of_control x) xs × HasEachControlOnce xs
