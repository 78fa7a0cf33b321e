-- What the overflow of a signed left shift is, in other words than those of its definition, and that a
-- packed decimal number is read as the word that was written.
use Rattle.std.specs.Prelude.{◌≡◌, ◌≢◌, ◌↔◌, ℕ, ◌<◌, ◌*◌, ◌/◌, ◌%◌, ◌^◌, Bool, Ok}
use Rattle.std.specs.Int.{bit_at}
use Rattle.s360_model.specs.ConditionCodes.{signed_code}
use Rattle.s360_model.specs.Numbers.{signed}
use Rattle.s360_model.specs.Packed.{packed, packed_value}
use Rattle.s360_model.specs.Pairs.{pair_of, signed_pair, signed_pair_code}
use Rattle.s360_model.specs.Shifts.{times_power}
use Rattle.s360_word.specs.Packed.{word_unpacked}

-- the bits that a left shift moves past the sign, as a number of as many bits as the count: of a number that
-- has so many bits past its sign
abbrev pub lost_bits : ℕ → ℕ → ℕ → ℕ
lost_bits width number count = number % 2 ^ width * 2 ^ count / 2 ^ width

-- one of the lost bits is unlike the sign
abbrev pub LosesBitUnlikeSign : ℕ → ℕ → ℕ → Type 0
LosesBitUnlikeSign width number count = (i : ℕ) × (i < count) × (bit_at (lost_bits width number count) i ≢ bit_at number width)

-- a shift of a word overflows just where it loses such a bit
abbrev pub WordOverflowIsALostBit : Type 0
WordOverflowIsALostBit = (word count : ℕ) → word < 2 ^ 32 → (signed_code (times_power (signed word) count) ≡ 3) ↔ LosesBitUnlikeSign 31 word count

-- and so does a shift of a pair
abbrev pub PairOverflowIsALostBit : Type 0
PairOverflowIsALostBit =
    (high low count : ℕ) → high < 2 ^ 32 → low < 2 ^ 32
    → (signed_pair_code (times_power (signed_pair high low) count) ≡ 3) ↔ LosesBitUnlikeSign 63 (pair_of high low) count

-- a word as a packed number, in either mode, is that word
abbrev pub PackedRestores : Type 0
PackedRestores = (word : ℕ) (ascii : Bool) → word < 2 ^ 32 → word_unpacked (packed_value (packed ascii (signed word))) ≡ Ok word
