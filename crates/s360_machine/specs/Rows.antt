-- Rows of 16 bytes: what an event alters of the core where that is the PSW and little beside it, and else how much of it
-- stands in lists apart (kept).
use Rattle.std.specs.Prelude.{◌≡◌, ◌<◌, ◌≤◌, ◌+◌, ◌^◌, ℕ, true, List, [], ◌∷◌, length}
use Rattle.s360_store.specs.declared.place.Cell.{Cell}
use Rattle.s360_store.specs.declared.items.Item.{Item}
use Rattle.s360_store.specs.Cells.{AllFit, byte_cells}
use Rattle.s360_store.specs.Items.{AreItems, bytes_of_items, cells_of_items}
use Rattle.s360_store.specs.declared.place.Place.TheVariants.{Register as register_place}
use Rattle.s360_store.specs.CoreChanges.{psw_cell}
use Rattle.s360_machine.specs.declared.row.PackedRow.{PackedRow}
use Rattle.s360_machine.specs.declared.row.PackedRow.TheVariants.{Nothing, Psw, Register, Bytes, More}

-- the cell of a general register
abbrev pub register_cell : ℕ → ℕ → Cell
register_cell r word = record { place = register_place r; value = word }

-- how many single cells and runs, how many bytes, and how many changes beside the core stand apart
abbrev pub items_of_row : PackedRow → ℕ
items_of_row (More beside items bytes count) = items
items_of_row r = 0

abbrev pub bytes_of_row : PackedRow → ℕ
bytes_of_row (Bytes count address psw) = count
bytes_of_row (More beside items bytes count) = bytes
bytes_of_row r = 0

abbrev pub beside_of_row : PackedRow → ℕ
beside_of_row (More true items bytes count) = 1
beside_of_row r = 0

-- its cells, over the items and the bytes that stand apart
abbrev pub cells_of_row : PackedRow → List Item → List ℕ → List Cell
cells_of_row Nothing is bs = []
cells_of_row (Psw psw) is bs = psw_cell psw ∷ []
cells_of_row (Register r word psw) is bs = psw_cell psw ∷ (register_cell r word ∷ [])
cells_of_row (Bytes count address psw) is bs = psw_cell psw ∷ byte_cells address bs
cells_of_row (More beside items bytes count) is bs = cells_of_items is bs

-- items with just their bytes, whose cells fit their places and are few
pub record ArePartsOf (is : List Item) (bs : List ℕ) : Type 0 where
  pub whole : AreItems is
  pub all : bytes_of_items is ≡ length bs
  pub fit : AllFit true (cells_of_items is bs)
  pub few : length (cells_of_items is bs) ≤ 1000001

-- all its parts but its bytes stand within it
abbrev pub HasNoMore : PackedRow → Type 0
HasNoMore (More beside items bytes count) = ⊥
HasNoMore r = Unit {0}

-- as much of two rows stands apart
pub record HasSameCounts (r s : PackedRow) : Type 0 where
  pub items : items_of_row s ≡ items_of_row r
  pub bytes : bytes_of_row s ≡ bytes_of_row r
  pub beside : beside_of_row s ≡ beside_of_row r

-- it stands over these items and bytes, which are as many as it says: a run has bytes, with addresses of 32 bits
abbrev pub IsOver : PackedRow → List Item → List ℕ → Type 0
IsOver (Bytes count address psw) is bs = (is ≡ []) × (length bs ≡ count) × (0 < count) × (address + count ≤ 2 ^ 32)
IsOver (More beside items bytes count) is bs = (length is ≡ items) × (length bs ≡ bytes) × (length (cells_of_items is bs) ≡ count) × ArePartsOf is bs
IsOver r is bs = (is ≡ []) × (bs ≡ [])

-- a row that has all but its bytes within it has just these cells
pub record IsRowOf (cells : List Cell) (row : PackedRow) (bytes : List ℕ) : Type 0 where
  pub within : HasNoMore row
  pub over : IsOver row [] bytes
  pub cells_are : cells_of_row row [] bytes ≡ cells
