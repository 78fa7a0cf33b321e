use Rattle.s360_logic.proofs.DigitLemmas as lemmas
use Rattle.s360_logic.proofs.laws.digits_of_apart_operands.Goals as goal

pub returns : goal.returns
returns c = lemmas.digits_of_apart_operands
