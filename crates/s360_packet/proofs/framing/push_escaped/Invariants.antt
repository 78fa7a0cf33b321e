use Rattle.std.proofs.Common.{◌≡◌, ◌++◌, ◌%◌, take, sum}
use Rattle.s360_packet.specs.Framing.{escaped}
use Rattle.s360_packet.proofs.framing.push_escaped.Given as goal

abbrev pub invariant-loop-byte : goal.invariant-loop-byte
invariant-loop-byte l = record {
  text : l.text ≡ l.initial.text ++ escaped (take l.byte-index l.bytes);
  total : l.total ≡ sum (escaped (take l.byte-index l.bytes)) % 256;
}
