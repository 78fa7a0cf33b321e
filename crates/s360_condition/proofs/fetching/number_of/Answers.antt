use Rattle.std.proofs.Common.{arith}
use Rattle.s360_condition.proofs.NumberLemmas.{room_for_a_byte}
use Rattle.s360_condition.proofs.fetching.number_of.Goals as goal

pub overflow_mul-number : goal.overflow_mul-number
overflow_mul-number c = let room = room_for_a_byte c.loop-byte.byte-index c.loop-byte.number (omega arith) c.loop-byte.invariant.fits in omega arith

pub overflow_add-number : goal.overflow_add-number
overflow_add-number c = let room = room_for_a_byte c.loop-byte.byte-index c.loop-byte.number (omega arith) c.loop-byte.invariant.fits in omega arith
