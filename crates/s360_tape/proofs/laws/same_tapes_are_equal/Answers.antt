use Rattle.s360_tape.proofs.DifferenceLemmas.{same_tape-Decides}
use Rattle.s360_tape.proofs.laws.same_tapes_are_equal.Goals as goal

pub returns : goal.returns
returns c = same_tape-Decides
