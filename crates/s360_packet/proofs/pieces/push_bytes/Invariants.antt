use Rattle.std.proofs.Common.{◌≡◌, ◌++◌, take}
use Rattle.s360_packet.specs.Hexadecimal.{bytes_text}
use Rattle.s360_packet.proofs.pieces.push_bytes.Given as goal

abbrev pub invariant-loop-byte : goal.invariant-loop-byte
invariant-loop-byte l = l.text ≡ l.initial.text ++ bytes_text (take l.byte-index l.bytes)
