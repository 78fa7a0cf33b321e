use Rattle.std.proofs.Common.{◌≡◌, ◌++◌, map, take}
use Rattle.s360_language.specs.ShownBytes.{sign_of}
use Rattle.s360_language.proofs.show_bytes.push_signs.Given as goal

abbrev pub invariant-loop-byte : goal.invariant-loop-byte
invariant-loop-byte l = l.text ≡ l.initial.text ++ map sign_of (take l.byte-index l.bytes)
