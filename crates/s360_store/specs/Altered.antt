-- The cells beside the PSW that an event alters (kept).
use Rattle.std.specs.Prelude.{◌≡◌, Option, Some, None, List, [], ◌∷◌}
use Rattle.s360_store.specs.declared.altered.AlteredRegister.{AlteredRegister}
use Rattle.s360_store.specs.declared.altered.BesidePsw.{BesidePsw}
use Rattle.s360_store.specs.declared.altered.BesidePsw.TheVariants.{Nothing, Register as OneRegister, Run, More}
use Rattle.s360_store.specs.declared.place.Place.TheVariants.{Register}
use Rattle.s360_store.specs.declared.place.Cell.{Cell}
use Rattle.s360_store.specs.Items.{IsRunOf}

-- the cell of a register
abbrev pub register_cell : AlteredRegister → Cell
register_cell x = record { place = Register x.register; value = x.word }

-- the cells: that of a register alone, or others
abbrev pub cells_of : Option AlteredRegister → List Cell → List Cell
cells_of (Some x) others = register_cell x ∷ []
cells_of None others = others

-- what the cells are; of cells that are anything else nothing is said
abbrev pub IsBesidePsw : List Cell → BesidePsw → Type 0
IsBesidePsw cs Nothing = cs ≡ []
IsBesidePsw cs (OneRegister register word) = cs ≡ register_cell (record { register = register; word = word }) ∷ []
IsBesidePsw cs (Run address bytes) = IsRunOf cs address bytes.now
IsBesidePsw cs More = Unit {0}
