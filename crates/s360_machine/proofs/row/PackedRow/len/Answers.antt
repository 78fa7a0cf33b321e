use Rattle.std.proofs.Common.{arith}
use Rattle.s360_store.proofs.ByteCellLemmas.{length-byte_cells}
use Rattle.s360_machine.proofs.row.PackedRow.len.Goals as goal

pub returns-in-Bytes-clause-len : goal.returns-in-Bytes-clause-len
returns-in-Bytes-clause-len c = rw c.in-Bytes.is (λ is bs o. omega (arith, o.1, length-byte_cells c.in-Bytes.address bs))

pub returns-in-More-clause-few : goal.returns-in-More-clause-few
returns-in-More-clause-few c = rw c.in-More.is (λ is bs o. omega (arith, o.2, o.3.few))
