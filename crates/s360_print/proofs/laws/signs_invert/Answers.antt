use Rattle.s360_print.proofs.SignLemmas.{signs-invert}
use Rattle.s360_print.proofs.laws.signs_invert.Goals as goal

pub returns : goal.returns
returns c = signs-invert
