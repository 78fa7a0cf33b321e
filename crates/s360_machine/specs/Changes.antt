-- What an event alters, of the core and beside it (kept).
use Rattle.std.specs.Prelude.{Option, Some, None, List, []}
use Rattle.s360_store.specs.declared.place.Cell.{Cell}
use Rattle.s360_machine.specs.declared.beside.Beside.{Beside}
use Rattle.s360_machine.specs.Change.{Change}
use Rattle.s360_machine.specs.ControlCells.{control_cells}

-- a change of the core alone
abbrev pub change_of_core : List Cell → Change
change_of_core cells = record { cells = cells; control = []; units = None; media = None }

-- a change of the core and of what is beside it
abbrev pub change_of : List Cell → Beside → Change
change_of cells x = record { cells = cells; control = control_cells x.control; units = x.units; media = x.media }

-- if there is anything beside it
abbrev pub change_with : List Cell → Option Beside → Change
change_with cells None = change_of_core cells
change_with cells (Some x) = change_of cells x
