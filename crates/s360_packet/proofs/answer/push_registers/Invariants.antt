use Rattle.std.proofs.Common.{◌≡◌, ◌++◌, take, flat_map}
use Rattle.s360_packet.specs.Hexadecimal.{word_text}
use Rattle.s360_packet.proofs.answer.push_registers.Given as goal

abbrev pub invariant-loop-word : goal.invariant-loop-word
invariant-loop-word l = l.text ≡ l.initial.text ++ flat_map word_text (take l.word-index l.words)
