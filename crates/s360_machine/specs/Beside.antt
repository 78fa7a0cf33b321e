-- What an event alters beside the core (kept).
use Rattle.std.specs.Prelude.{◌≡◌, ◌++◌, None, List, []}
use Rattle.s360_store.specs.declared.place.Place.{Place}
use Rattle.s360_channel.specs.UnitChanges.{places_of_units}
use Rattle.s360_machine.specs.ControlCells.{control_cells, places_of_control}
use Rattle.s360_machine.specs.IoChanges.{places_of_media}
use Rattle.s360_machine.specs.declared.beside.Beside.{Beside}

-- the places, in their order
abbrev pub places_of_beside : Beside → List Place
places_of_beside x = places_of_control (control_cells x.control) ++ (places_of_units x.units ++ places_of_media x.media)

-- there are none
pub record IsNothing (x : Beside) : Type 0 where
  pub control : control_cells x.control ≡ []
  pub units : x.units ≡ None
  pub media : x.media ≡ None
