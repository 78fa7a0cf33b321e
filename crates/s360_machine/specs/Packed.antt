-- Changes as they stand in the journal: a row of 16 bytes for each, and three lists for what stands apart from the rows, with
-- that of the newest change at their ends: single cells and runs, the bytes of the runs, and what is beside the core (kept).
use Rattle.std.specs.Prelude.{◌≡◌, ◌<◌, ◌≤◌, ◌-◌, ◌++◌, ℕ, Bool, Option, Some, None, IfSome, List, [], ◌∷◌, length, take, drop, reverse, slice_get, Vec}
use Rattle.s360_store.specs.declared.items.Item.{Item}
use Rattle.s360_store.specs.declared.place.Cell.{Cell}
use Rattle.s360_store.specs.declared.place.Place.{Place}
use Rattle.s360_store.specs.declared.place.Place.TheVariants.{Byte}
use Rattle.s360_store.specs.Cells.{places_of_cells}
use Rattle.s360_store.specs.CoreChanges.{CoreChange, cells_of_change}
use Rattle.s360_store.specs.Places.{is_among}
use Rattle.s360_machine.specs.declared.row.PackedRow.{PackedRow}
use Rattle.s360_machine.specs.declared.beside.Beside.{Beside}
use Rattle.s360_machine.specs.declared.packed.End.{End}
use Rattle.s360_machine.specs.declared.packed.Own.{Own}
use Rattle.s360_machine.specs.Change.{CanSwap, Change, after_swap, change_after_swap, places_of_change}
use Rattle.s360_machine.specs.Machine.{Whole}
use Rattle.s360_machine.specs.Changes.{change_of, change_of_core, change_with}
use Rattle.s360_machine.specs.Stretches.{stretches}
use Rattle.s360_machine.specs.Rows.{IsOver, beside_of_row, bytes_of_row, cells_of_row, items_of_row}

pub record Lists : Type 0 where
  pub items : List Item
  pub bytes : List ℕ
  pub beside : List Beside

abbrev pub lists : List Item → List ℕ → List Beside → Lists
lists items bytes beside = record { items = items; bytes = bytes; beside = beside }

abbrev pub lists_in : {A : Type 0} → Vec Item A → Vec ℕ A → Vec Beside A → Lists
lists_in items bytes beside = lists items.items bytes.items beside.items

-- so many at the end of a list, and those before them
abbrev pub newest : {X : Type 0} → ℕ → List X → List X
newest n xs = drop (length xs - n) xs

abbrev pub older : {X : Type 0} → ℕ → List X → List X
older n xs = take (length xs - n) xs

-- what the lists have of the change of the newest row, and what they have before it
abbrev pub own : PackedRow → Lists → Lists
own r ls = record { items = newest (items_of_row r) ls.items; bytes = newest (bytes_of_row r) ls.bytes; beside = newest (beside_of_row r) ls.beside }

abbrev pub others : PackedRow → Lists → Lists
others r ls = record { items = older (items_of_row r) ls.items; bytes = older (bytes_of_row r) ls.bytes; beside = older (beside_of_row r) ls.beside }

-- the change of a row with what the lists have of it
abbrev pub change_of_row : PackedRow → Lists → Change
change_of_row r ls = change_with (cells_of_row r ls.items ls.bytes) (slice_get ls.beside 0)

-- the same over what three lists have
abbrev pub row_over : PackedRow → List Item → List ℕ → List Beside → Change
row_over r items bytes beside = change_of_row r (lists items bytes beside)

-- the change of a row that has all but its bytes within it
abbrev pub change_within : PackedRow → List ℕ → Change
change_within r bytes = change_of_core (cells_of_row r [] bytes)

-- the changes, the newest first
abbrev pub unpacked : List PackedRow → Lists → List Change
unpacked [] ls = []
unpacked (r ∷ rs) ls = change_of_row r (own r ls) ∷ unpacked rs (others r ls)

-- each row stands over what the lists have of it, and they have nothing else
abbrev pub HasOwn : PackedRow → Lists → Type 0
HasOwn r ls = (items_of_row r ≤ length ls.items) × (bytes_of_row r ≤ length ls.bytes) × (beside_of_row r ≤ length ls.beside)

abbrev pub ArePacked : List PackedRow → Lists → Type 0
ArePacked [] ls = (ls.items ≡ []) × (ls.bytes ≡ []) × (ls.beside ≡ [])
ArePacked (r ∷ rs) ls = HasOwn r ls × IsOver r (own r ls).items (own r ls).bytes × ArePacked rs (others r ls)

-- the changes of rows in their order
abbrev pub changes_of_rows : List PackedRow → Lists → List Change
changes_of_rows rows ls = reverse (unpacked (reverse rows) ls)

-- lists with more at their ends, and lists up to where they end of first changes, and from there on
abbrev pub joined : Lists → Lists → Lists
joined ls ms = record { items = ls.items ++ ms.items; bytes = ls.bytes ++ ms.bytes; beside = ls.beside ++ ms.beside }

abbrev pub lists_to : End → Lists → Lists
lists_to e ls = record { items = take e.items ls.items; bytes = take e.bytes ls.bytes; beside = take e.beside ls.beside }

abbrev pub lists_from : End → Lists → Lists
lists_from e ls = record { items = drop e.items ls.items; bytes = drop e.bytes ls.bytes; beside = drop e.beside ls.beside }

-- the lists end there for some of the rows
pub record IsWithin (list : List PackedRow) (ls : Lists) (e : End) : Type 0 where
  pub rows : e.rows ≤ length list
  pub items : e.items ≤ length ls.items
  pub bytes : e.bytes ≤ length ls.bytes
  pub beside : e.beside ≤ length ls.beside

-- where the lists end before the last of the changes
abbrev pub end_before : End → PackedRow → End
end_before e r = record { rows = e.rows - 1; items = e.items - items_of_row r; bytes = e.bytes - bytes_of_row r; beside = e.beside - beside_of_row r }

-- the lists have what the row has of them
pub record HasBefore (e : End) (r : PackedRow) : Type 0 where
  pub rows : 0 < e.rows
  pub items : items_of_row r ≤ e.items
  pub bytes : bytes_of_row r ≤ e.bytes
  pub beside : beside_of_row r ≤ e.beside

-- the lists end there of the first changes: these stand over the lists up to there, and all others over the rest, whatever
-- the first ones are
pub record IsEnd (rows : List PackedRow) (ls : Lists) (e : End) : Type 0 where
  pub within : IsWithin rows ls e
  pub packed : ArePacked (reverse (take e.rows rows)) (lists_to e ls)
  pub changes : unpacked (reverse (take e.rows rows)) (lists_to e ls) ≡ drop (length rows - e.rows) (unpacked (reverse rows) ls)
  pub rest : (rs : List PackedRow) (ms : Lists)
      → unpacked (reverse (drop e.rows rows) ++ rs) (joined ms (lists_from e ls)) ≡ take (length rows - e.rows) (unpacked (reverse rows) ls) ++ unpacked rs ms
  pub rest_packed : (rs : List PackedRow) (ms : Lists) → ArePacked rs ms → ArePacked (reverse (drop e.rows rows) ++ rs) (joined ms (lists_from e ls))

-- the change as it stands in the lists
abbrev pub change_of_own : Own → Change
change_of_own o = row_over o.row o.items.now o.bytes.now o.beside.now

pub record IsOwnOf (o : Own) (x : Change) : Type 0 where
  pub over : IsOver o.row o.items.now o.bytes.now
  pub beside : length o.beside.now ≡ beside_of_row o.row
  pub change : change_of_own o ≡ x

-- lists that have more at their ends: what a row has of a change
pub record IsAppended (old new : Lists) (r : PackedRow) (x : Change) : Type 0 where
  pub own_lists : Lists
  pub lists_are : new ≡ joined old own_lists
  pub items : length own_lists.items ≡ items_of_row r
  pub bytes : length own_lists.bytes ≡ bytes_of_row r
  pub beside : length own_lists.beside ≡ beside_of_row r
  pub over : IsOver r own_lists.items own_lists.bytes
  pub change : change_of_row r own_lists ≡ x

-- what a row has of a change of the core and of what is beside it
abbrev pub AppendsRow : Lists → Lists → CoreChange → Beside → PackedRow → Type 0
AppendsRow old new core beside r = IsAppended old new r (change_of (cells_of_change core) beside)

-- of the last of the changes, if there is one
abbrev pub OfLast : List Change → (Change → Type 0) → Type 0
OfLast xs P = IfSome (slice_get xs (length xs - 1)) P

-- an exchange of a change with the machine leads to another
pub record IsSwapOf (w : Whole) (x : Change) (v : Whole) : Type 0 where
  pub machine : v ≡ after_swap w x
  pub again : CanSwap v (change_after_swap w x)
  pub restores_machine : after_swap v (change_after_swap w x) ≡ w
  pub restores_change : change_after_swap v (change_after_swap w x) ≡ x

-- a change alters a place
abbrev pub change_alters : Change → Place → Bool
change_alters x p = is_among (places_of_change x) p

-- the values of the cells of bytes
abbrev pub value_if_byte : Place → ℕ → List ℕ
value_if_byte (Byte a) v = v ∷ []
value_if_byte p v = []

abbrev pub byte_values : List Cell → List ℕ
byte_values [] = []
byte_values (c ∷ cs) = value_if_byte c.place c.value ++ byte_values cs

-- of all changes
abbrev pub bytes_of_changes : List Change → List ℕ
bytes_of_changes [] = []
bytes_of_changes (x ∷ xs) = byte_values x.cells ++ bytes_of_changes xs

abbrev pub stretches_of : Option Change → ℕ
stretches_of None = 0
stretches_of (Some x) = stretches None (places_of_cells x.cells)

-- of the last of the changes; none where there is none
abbrev pub last_stretches : List Change → ℕ
last_stretches xs = stretches_of (slice_get xs (length xs - 1))
