use Rattle.s360_inquiry.proofs.happening.push_word.Goals as goal

pub returns : goal.returns
returns c = rw c.in-Some.is c.push_numbered.ensures
