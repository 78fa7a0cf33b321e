use Rattle.s360_journal.proofs.AgainLemmas.{TurnRunsAgain-holds}
use Rattle.s360_journal.proofs.laws.turn_runs_again.Goals as goal

pub returns : goal.returns
returns c = TurnRunsAgain-holds
