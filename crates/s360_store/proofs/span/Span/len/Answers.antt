use Rattle.std.proofs.Common.{sym}
use Rattle.s360_store.proofs.SpanLemmas.{length-byte_places}
use Rattle.s360_store.proofs.span.Span.len.Goals as goal

pub returns-in-Bytes : goal.returns-in-Bytes
returns-in-Bytes c = rw c.in-Bytes.is (sym (length-byte_places c.in-Bytes.address c.in-Bytes.count))
