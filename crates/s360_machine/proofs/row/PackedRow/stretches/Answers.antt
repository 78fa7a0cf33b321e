use Rattle.std.proofs.Common.{◌≡◌, ◌+◌, ◌++◌, [], None, ap, append-nil, arith}
use Rattle.s360_store.specs.Cells.{byte_cells, places_of_cells}
use Rattle.s360_machine.specs.Stretches.{stretches}
use Rattle.s360_machine.proofs.StretchLemmas.{run-more}
use Rattle.s360_machine.proofs.row.PackedRow.stretches.Goals as goal

pub returns-in-Bytes : goal.returns-in-Bytes
returns-in-Bytes c =
    let over = rw c.in-Bytes.is at c.requires
    in let one : stretches None (places_of_cells (byte_cells c.in-Bytes.address c.args.bytes.now) ++ []) ≡ 1 + 0 = run-more None c.in-Bytes.address c.args.bytes.now [] (omega (arith, over.1, over.2))
    in rw c.in-Bytes.is (omega (arith, one, ap (λ ps. stretches None ps) (append-nil (places_of_cells (byte_cells c.in-Bytes.address c.args.bytes.now)))))
