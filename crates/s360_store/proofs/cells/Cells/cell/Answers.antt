use Rattle.s360_store.proofs.ItemLemmas.{first-byte, slice_get-first}
use Rattle.s360_store.proofs.cells.Cells.cell.Goals as goal

pub returns-in-Cell : goal.returns-in-Cell
returns-in-Cell c = slice_get-first c.args.self.now c.args.i c.in-Cell.cell _ c.in-Cell.ensures.is

pub returns-in-Bytes : goal.returns-in-Bytes
returns-in-Bytes c = rw c.byte_cell.ensures (first-byte c.args.self.now c.args.i c.in-Bytes.address c.in-Bytes.bytes.now _ c.in-Bytes.ensures.some c.in-Bytes.ensures.is)
