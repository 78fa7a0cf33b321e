use Rattle.std.proofs.Common.{◌≡◌, ◌++◌, take}
use Rattle.s360_model.specs.Text.{hex_bytes}
use Rattle.s360_language.proofs.show_bytes.push_digits.Given as goal

abbrev pub invariant-loop-byte : goal.invariant-loop-byte
invariant-loop-byte l = l.text ≡ l.initial.text ++ hex_bytes (take l.byte-index l.bytes)
