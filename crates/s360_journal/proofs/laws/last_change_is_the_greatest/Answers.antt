use Rattle.s360_journal.proofs.LawLemmas.{last_change-greatest}
use Rattle.s360_journal.proofs.laws.last_change_is_the_greatest.Goals as goal

pub returns : goal.returns
returns c = last_change-greatest
