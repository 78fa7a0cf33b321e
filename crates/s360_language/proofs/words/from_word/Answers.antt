use Rattle.s360_language.proofs.WordLemmas.{from_first-at, from_first-none}
use Rattle.s360_language.proofs.words.from_word.Goals as goal

pub returns-in-Some : goal.returns-in-Some
returns-in-Some c = from_first-at _ c.args.line.now c.in-Some.at c.in-Some.ensures

pub returns-in-None : goal.returns-in-None
returns-in-None c = from_first-none _ c.args.line.now c.in-None.ensures
