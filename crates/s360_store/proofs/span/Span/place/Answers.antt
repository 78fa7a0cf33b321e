use Rattle.std.proofs.Common.{arith}
use Rattle.s360_store.proofs.SpanLemmas.{byte_places-get, length-byte_places}
use Rattle.s360_store.proofs.span.Span.place.Goals as goal

pub overflow_add-result : goal.overflow_add-result
overflow_add-result c =
    let span = rw c.in-Bytes.is at c.requires.span
    in let inside = rw c.in-Bytes.is at c.requires.inside
    in omega (arith, span.1, inside, length-byte_places c.in-Bytes.address c.in-Bytes.count)

pub returns-in-Bytes : goal.returns-in-Bytes
returns-in-Bytes c =
    let inside = rw c.in-Bytes.is at c.requires.inside
    in rw c.in-Bytes.is (byte_places-get c.in-Bytes.address c.in-Bytes.count c.args.i (omega (arith, inside, length-byte_places c.in-Bytes.address c.in-Bytes.count)))
