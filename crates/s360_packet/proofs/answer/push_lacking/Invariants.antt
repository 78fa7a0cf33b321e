use Rattle.std.proofs.Common.{◌≡◌, ◌++◌, replicate}
use Rattle.s360_packet.proofs.answer.push_lacking.Given as goal

abbrev pub invariant-loop : goal.invariant-loop
invariant-loop l = l.text ≡ l.initial.text ++ replicate l.counter 0x78
