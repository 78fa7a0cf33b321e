use Rattle.s360_print.proofs.SkipLemmas.{skip-goes_to_first_line}
use Rattle.s360_print.proofs.laws.skip_goes_to_first_line.Goals as goal

pub returns : goal.returns
returns c = skip-goes_to_first_line
