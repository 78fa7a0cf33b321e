use Rattle.std.proofs.Common.{refl}
use Rattle.s360_store.proofs.ByteCellLemmas.{length-byte_cells}
use Rattle.s360_store.proofs.items.CellPart.len.Goals as goal

pub returns-in-Bytes : goal.returns-in-Bytes
returns-in-Bytes c = rw (c.in-Bytes.is, length-byte_cells) refl
