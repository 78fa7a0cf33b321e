-- Numbers and bytes in hexadecimal, in lower case (gdb manual, "Remote Serial Protocol", "Overview").
use Rattle.std.specs.Prelude.{ℕ, false, List, flat_map}
use Rattle.std.specs.Int.{to_be_bytes, w32}
use Rattle.std.specs.Fmt.{digits}
use Rattle.s360_packet.specs.Framing.{two_digits}

-- bytes in two digits each
abbrev pub bytes_text : List ℕ → List ℕ
bytes_text bytes = flat_map two_digits bytes

-- a word in eight digits, its high byte first
abbrev pub word_text : ℕ → List ℕ
word_text word = bytes_text (to_be_bytes w32 word)

-- a number without leading zeros
abbrev pub number_text : ℕ → List ℕ
number_text n = digits 16 false n
