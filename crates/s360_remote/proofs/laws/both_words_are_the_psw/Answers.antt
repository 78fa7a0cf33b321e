use Rattle.s360_remote.proofs.RegisterLemmas.{psw-both_words}
use Rattle.s360_remote.proofs.laws.both_words_are_the_psw.Goals as goal

pub returns : goal.returns
returns c = psw-both_words
