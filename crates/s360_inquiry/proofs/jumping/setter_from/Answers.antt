use Rattle.s360_inquiry.proofs.JumpLemmas.{setter-found}
use Rattle.s360_inquiry.proofs.jumping.setter_from.Goals as goal

pub returns-in_ok-words-in-Some-clause-setter : goal.returns-in_ok-words-in-Some-clause-setter
returns-in_ok-words-in-Some-clause-setter c =
    setter-found c.args.recording.now c.go_to.new.recording c.last_number.new.recording _ c.in-Some.number c.standing-before.result _ _ c.in_ok-words-in-Some.words
    c.in_ok-go_to.ensures.state c.in_ok-number.ensures.state c.standing-before.ensures.standing c.in-Some.is c.in_ok-number.ensures.number
    c.in_ok-words-in-Some.ensures.words
