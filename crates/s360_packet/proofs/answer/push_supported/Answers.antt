use Rattle.std.proofs.Common.{append_assoc}
use Rattle.s360_packet.proofs.answer.push_supported.Goals as goal

pub returns : goal.returns
returns c = simp append_assoc at (rw (c.in_ok-push_number.ensures, c.in_ok-push_text.ensures, c.from.ensures) at c.push_text-2.ensures)
