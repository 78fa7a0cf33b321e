-- The registers that gdb knows: the two words of the PSW, and the general registers. In gdb's `s390:31-bit` the mask word
-- has the condition code in bits 18 and 19 and the program mask in bits 20 to 23, where the PSW of the machine has an
-- interruption code; bits are numbered from 0 at the left. The address word has the 24 bits of the instruction
-- address alone (GA22-6821, "System Structure", program status word; the layout of gdb's features of s390).
use Rattle.std.specs.Prelude.{◌≡◌, ℕ, zero, suc, ◌+◌, ◌*◌, ◌/◌, ◌%◌, ◌^◌, List, ◌∷◌, map, slice_index}
use Rattle.std.specs.List.{range_with_len}
use Rattle.s360_machine.specs.declared.event.Patch.{Patch}
use Rattle.s360_machine.specs.declared.event.Patch.TheVariants.{Register, Psw}
use Rattle.s360_machine.specs.Machine.{Machine}
use Rattle.s360_model.specs.Psw.{IsCurrentPsw}

-- masks, key and states from bits 0 to 15, condition code and program mask from bits 34 to 39
abbrev pub mask_word_of : ℕ → ℕ
mask_word_of psw = psw / 2 ^ 48 * 2 ^ 16 + psw / 2 ^ 24 % 2 ^ 6 * 2 ^ 8

-- the instruction address from bits 40 to 63
abbrev pub address_word_of : ℕ → ℕ
address_word_of psw = psw % 2 ^ 24

-- the PSW of both words; their other bits are dropped
abbrev pub psw_of_words : ℕ → ℕ → ℕ
psw_of_words mask address = mask / 2 ^ 16 * 2 ^ 48 + mask / 2 ^ 8 % 2 ^ 6 * 2 ^ 24 + address % 2 ^ 24

-- the 18 words
abbrev pub words_of_machine : Machine → List ℕ
words_of_machine m = mask_word_of m.core.psw ∷ address_word_of m.core.psw ∷ map (λ r. slice_index m.core.registers r) (range_with_len 0 16)

-- what loads a PSW of both words
abbrev pub patch_of_psw : ℕ → ℕ → Patch
patch_of_psw mask address = Psw (psw_of_words mask address)

-- what puts a word into one of them: 0 is the mask word, 1 the address word, and the general registers follow
abbrev pub patch_of_word : Machine → ℕ → ℕ → Patch
patch_of_word m zero word = patch_of_psw word (address_word_of m.core.psw)
patch_of_word m (suc zero) word = patch_of_psw (mask_word_of m.core.psw) word
patch_of_word m (suc (suc register)) word = Register register word

-- the PSW of both its words is the PSW
abbrev pub BothWordsAreThePsw : Type 0
BothWordsAreThePsw = (psw : ℕ) → IsCurrentPsw psw → psw_of_words (mask_word_of psw) (address_word_of psw) ≡ psw
