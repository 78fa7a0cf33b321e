-- The word that a packed decimal number is, or why there is none.
use Rattle.std.specs.Prelude.{ℕ, if◌then◌else◌, ℤ, Option, None, Some, Result, Ok, Err}
use Rattle.s360_model.specs.Arithmetic.{word_of}
use Rattle.s360_model.specs.Numbers.{fits_word}
use Rattle.s360_word.specs.declared.packed.PackedFault.{PackedFault}
use Rattle.s360_word.specs.declared.packed.PackedFault.TheVariants.{BadDigit, TooLarge}

-- the word of a number: one that does not fit a word is told with its low 32 bits
abbrev pub word_unpacked : Option ℤ → Result ℕ PackedFault
word_unpacked None = Err BadDigit
word_unpacked (Some n) = if fits_word n then Ok (word_of n) else Err (TooLarge (word_of n))
