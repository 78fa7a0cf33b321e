use Rattle.s360_journal.proofs.BreakpointLemmas.{breakpoints-set}
use Rattle.s360_journal.proofs.laws.breakpoints_are_a_set.Goals as goal

pub returns : goal.returns
returns c = breakpoints-set
