use Rattle.std.proofs.Common.{refl, arith}
use Rattle.s360_packet.proofs.BytesLemmas.{no_bytes, want_of_memory}
use Rattle.s360_packet.proofs.fields.bytes.Goals as goal

pub returns-then-not-are_digits : goal.returns-then-not-are_digits
returns-then-not-are_digits c = no_bytes c.args.text.now (λ all. cc (c.if-not-are_digits.ensures.1 all))

pub returns-in-Err-OutOfMemory : goal.returns-in-Err-OutOfMemory
returns-in-Err-OutOfMemory c = want_of_memory c.args.text.now (omega arith) (c.if-not-are_digits.ensures.0 refl)
