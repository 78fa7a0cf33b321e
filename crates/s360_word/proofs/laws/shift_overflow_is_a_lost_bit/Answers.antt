use Rattle.s360_word.proofs.ShiftLemmas.{pair-overflow, word-overflow}
use Rattle.s360_word.proofs.laws.shift_overflow_is_a_lost_bit.Goals as goal

pub returns-clause-word : goal.returns-clause-word
returns-clause-word c = word-overflow

pub returns-clause-pair : goal.returns-clause-pair
returns-clause-pair c = pair-overflow
