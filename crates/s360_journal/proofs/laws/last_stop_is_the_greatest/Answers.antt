use Rattle.s360_journal.proofs.LawLemmas.{last_stop-greatest}
use Rattle.s360_journal.proofs.laws.last_stop_is_the_greatest.Goals as goal

pub returns : goal.returns
returns c = last_stop-greatest
