-- What an event alters: values for places, which are exchanged with what stands there (kept). The same
-- exchange done again takes the event back. Cells have the places of the core, control cells those
-- of the control part, and the other changes those of the units, so that a change alone tells which
-- places it alters.
use Rattle.std.specs.Prelude.{◌++◌, ◌<◌, ◌≤◌, Option, List, IfSome, MatchOption}
use Rattle.s360_model.specs.Exchanges.{CanIfAny, after_if_any, back_if_any}
use Rattle.s360_store.specs.declared.place.Place.{Place}
use Rattle.s360_store.specs.declared.place.Cell.{Cell}
use Rattle.s360_store.specs.Cells.{after_exchange, cells_after_exchange, AreCellsOf, places_of_cells}
use Rattle.s360_channel.specs.declared.unit_change.UnitChange.{UnitChange}
use Rattle.s360_channel.specs.UnitChanges.{CanSwapUnits, places_of_units, unit_change_after_swap, units_after_swap}
use Rattle.s360_machine.specs.ControlCells.{ControlCell, places_of_control, HasEachControlOnce, control_after_exchange, control_cells_after_exchange}
use Rattle.s360_machine.specs.declared.media.MediaChange.{MediaChange}
use Rattle.s360_machine.specs.IoChanges.{CanSwapMedia, media_after_swap, media_change_after_swap, media_needs, places_of_media, unit_of_change}
use Rattle.s360_machine.specs.Machine.{Whole, Spare, room_for}

pub record Change : Type 0 where
  pub cells : List Cell
  pub control : List ControlCell
  pub units : Option UnitChange
  pub media : Option MediaChange

-- the places that it alters beside those of the core
abbrev pub places_beside_core : Change → List Place
places_beside_core x = places_of_control x.control ++ (places_of_units x.units ++ places_of_media x.media)

-- the places that it alters, those of the core first
abbrev pub places_of_change : Change → List Place
places_of_change x = places_of_cells x.cells ++ places_beside_core x

-- it can be exchanged with the whole
abbrev pub CanSwap : Whole → Change → Type 0
CanSwap w x = AreCellsOf w.core x.cells × HasEachControlOnce x.control × CanIfAny CanSwapUnits w.units x.units × CanIfAny CanSwapMedia w.media x.media

-- the room is enough for the exchange
abbrev pub HasRoom : Spare → Change → Type 0
HasRoom s x = IfSome x.media (λ y. media_needs y ≤ room_for s (unit_of_change y))

-- the exchange wants room: that of a device in which an item is put
abbrev pub NeedsRoom : Change → Type 0
NeedsRoom x = MatchOption x.media ⊥ (λ y. 0 < media_needs y)

-- the exchange wants no room
abbrev pub NeedsNoRoom : Change → Type 0
NeedsNoRoom x = (s : Spare) → HasRoom s x

-- the whole after the exchange
abbrev pub after_swap : Whole → Change → Whole
after_swap w x = record {
  core = after_exchange w.core x.cells;
  control = control_after_exchange w.control x.control;
  units = after_if_any units_after_swap w.units x.units;
  media = after_if_any media_after_swap w.media x.media;
}

-- the change after the exchange
abbrev pub change_after_swap : Whole → Change → Change
change_after_swap w x = record {
  cells = cells_after_exchange w.core x.cells;
  control = control_cells_after_exchange w.control x.control;
  units = back_if_any unit_change_after_swap w.units x.units;
  media = back_if_any media_change_after_swap w.media x.media;
}
