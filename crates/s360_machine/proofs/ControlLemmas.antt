-- An exchange of control cells done twice restores the control part and the cells.
use Rattle.std.proofs.Common.{◌≡◌, ◌≢◌, List, [], ◌∷◌, refl, ap, sym, ◌∙◌}
use Rattle.s360_store.specs.declared.place.Place.{Place}
use Rattle.s360_machine.specs.ControlCells.{ControlCell, run, external, place_of_control, places_of_control, with_control, control_at, control_after_exchange, control_cells_after_exchange, IsFreshControl, HasEachControlOnce}
use Rattle.s360_machine.specs.Machine.{Control}

-- the laws of one exchange
control_at-same : (c : Control) (x : ControlCell) → control_at (with_control c x) x ≡ x
control_at-same c (run state) = refl
control_at-same c (external conditions) = refl

control_at-place : (c : Control) (x : ControlCell) → place_of_control (control_at c x) ≡ place_of_control x
control_at-place c (run state) = refl
control_at-place c (external conditions) = refl

-- cells of one place look at the same
control_at-one : (c : Control) (x y : ControlCell) → place_of_control x ≡ place_of_control y → control_at c x ≡ control_at c y
control_at-one c (run state) (run other) h = refl
control_at-one c (external conditions) (external other) h = refl
control_at-one c (run state) (external conditions) h = cc
control_at-one c (external conditions) (run state) h = cc

with_control-back : (c : Control) (x : ControlCell) → with_control (with_control c x) (control_at c x) ≡ c
with_control-back c (run state) = refl
with_control-back c (external conditions) = refl

control_at-other : (c : Control) (x y : ControlCell) → place_of_control x ≢ place_of_control y → control_at (with_control c x) y ≡ control_at c y
control_at-other c (run state) (run other) h = absurd (h refl)
control_at-other c (external conditions) (external other) h = absurd (h refl)
control_at-other c (run state) (external conditions) h = refl
control_at-other c (external conditions) (run state) h = refl

with_control-comm : (c : Control) (x y : ControlCell) → place_of_control x ≢ place_of_control y
    → with_control (with_control c x) y ≡ with_control (with_control c y) x
with_control-comm c (run state) (run other) h = absurd (h refl)
with_control-comm c (external conditions) (external other) h = absurd (h refl)
with_control-comm c (run state) (external conditions) h = refl
with_control-comm c (external conditions) (run state) h = refl

-- a cell whose place no other has may be put before or after them
control_after_exchange-with : (c : Control) (xs : List ControlCell) (x : ControlCell) → IsFreshControl (place_of_control x) xs
    → control_after_exchange (with_control c x) xs ≡ with_control (control_after_exchange c xs) x
control_after_exchange-with c [] x h = refl
control_after_exchange-with c (y ∷ ys) x h =
    ap (λ d. control_after_exchange d ys) (with_control-comm c x y h.0) ∙ control_after_exchange-with (with_control c y) ys x h.1

control_cells_after_exchange-with : (c : Control) (xs : List ControlCell) (x : ControlCell) → IsFreshControl (place_of_control x) xs
    → control_cells_after_exchange (with_control c x) xs ≡ control_cells_after_exchange c xs
control_cells_after_exchange-with c [] x h = refl
control_cells_after_exchange-with c (y ∷ ys) x h =
    let e : control_cells_after_exchange (with_control (with_control c x) y) ys ≡ control_cells_after_exchange (with_control c y) ys
    = ap (λ d. control_cells_after_exchange d ys) (with_control-comm c x y h.0) ∙ control_cells_after_exchange-with (with_control c y) ys x h.1
    in let f : control_at (with_control c x) y ≡ control_at c y = control_at-other c x y h.0
    in cc

-- it keeps what stands at its place
control_at-after : (c : Control) (xs : List ControlCell) (x : ControlCell) → IsFreshControl (place_of_control x) xs
    → control_at (control_after_exchange c xs) x ≡ control_at c x
control_at-after c [] x h = refl
control_at-after c (y ∷ ys) x h =
    control_at-after (with_control c y) ys x h.1 ∙ control_at-other c y x (λ e. h.0 (sym e))

IsFreshControl-after : (c : Control) (xs : List ControlCell) (p : Place) → IsFreshControl p xs → IsFreshControl p (control_cells_after_exchange c xs)
IsFreshControl-after c [] p h = tt
IsFreshControl-after c (x ∷ xs) p h = ((λ e. h.0 (e ∙ control_at-place c x)), IsFreshControl-after (with_control c x) xs p h.1)

-- what an exchange leaves may be exchanged again
pub HasEachControlOnce-after : (c : Control) (xs : List ControlCell) → HasEachControlOnce xs → HasEachControlOnce (control_cells_after_exchange c xs)
HasEachControlOnce-after c [] h = tt
HasEachControlOnce-after c (x ∷ xs) h =
    let same : place_of_control (control_at c x) ≡ place_of_control x = control_at-place c x
    in (rw same (IsFreshControl-after (with_control c x) xs (place_of_control x) h.0), HasEachControlOnce-after (with_control c x) xs h.1)

-- which restores the control part
pub control_after_exchange-twice : (c : Control) (xs : List ControlCell) → HasEachControlOnce xs
    → control_after_exchange (control_after_exchange c xs) (control_cells_after_exchange c xs) ≡ c
control_after_exchange-twice c [] h = refl
control_after_exchange-twice c (x ∷ xs) h =
    let d : Control = with_control c x
    in let old : ControlCell = control_at c x
    in let same : place_of_control old ≡ place_of_control x = control_at-place c x
    in let fresh : IsFreshControl (place_of_control old) (control_cells_after_exchange d xs) = rw same (IsFreshControl-after d xs (place_of_control x) h.0)
    in control_after_exchange-with (control_after_exchange d xs) (control_cells_after_exchange d xs) old fresh
    ∙ ap (λ k. with_control k old) (control_after_exchange-twice d xs h.1)
    ∙ with_control-back c x

-- and the cells
pub control_cells_after_exchange-twice : (c : Control) (xs : List ControlCell) → HasEachControlOnce xs
    → control_cells_after_exchange (control_after_exchange c xs) (control_cells_after_exchange c xs) ≡ xs
control_cells_after_exchange-twice c [] h = refl
control_cells_after_exchange-twice c (x ∷ xs) h =
    let d : Control = with_control c x
    in let old : ControlCell = control_at c x
    in let same : place_of_control old ≡ place_of_control x = control_at-place c x
    in let fresh : IsFreshControl (place_of_control old) (control_cells_after_exchange d xs) = rw same (IsFreshControl-after d xs (place_of_control x) h.0)
    in let now : control_at (control_after_exchange d xs) old ≡ x
    = control_at-one (control_after_exchange d xs) old x same ∙ control_at-after d xs x h.0 ∙ control_at-same c x
    in let rest : control_cells_after_exchange (with_control (control_after_exchange d xs) old) (control_cells_after_exchange d xs) ≡ xs
    = control_cells_after_exchange-with (control_after_exchange d xs) (control_cells_after_exchange d xs) old fresh ∙ control_cells_after_exchange-twice d xs h.1
    in ap (λ y. y ∷ control_cells_after_exchange (with_control (control_after_exchange d xs) old) (control_cells_after_exchange d xs)) now
    ∙ ap (λ ys. x ∷ ys) rest

-- an exchange keeps the places
pub places_of_control-after : (c : Control) (xs : List ControlCell) → places_of_control (control_cells_after_exchange c xs) ≡ places_of_control xs
places_of_control-after c [] = refl
places_of_control-after c (x ∷ xs) =
    ap (λ p. p ∷ places_of_control (control_cells_after_exchange (with_control c x) xs)) (control_at-place c x)
    ∙ ap (λ ps. place_of_control x ∷ ps) (places_of_control-after (with_control c x) xs)
