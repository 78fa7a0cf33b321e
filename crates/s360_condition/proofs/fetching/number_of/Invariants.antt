use Rattle.std.proofs.Common.{◌≡◌, ◌<◌, ◌^◌, take}
use Rattle.s360_condition.specs.Reading.{big_endian}
use Rattle.s360_condition.proofs.fetching.number_of.Given as goal

abbrev pub invariant-loop-byte : goal.invariant-loop-byte
invariant-loop-byte l = record {
  number : l.number ≡ big_endian (take l.byte-index l.bytes);
  fits : l.number < 256 ^ l.byte-index;
}
