use Rattle.s360_inquiry.proofs.StoreLemmas.{stores-told}
use Rattle.s360_inquiry.proofs.storing.answer_stores.Goals as goal

pub returns-clause-text : goal.returns-clause-text
returns-clause-text c =
    stores-told c.args.recording.now c.last_numbers.new.recording c.args.extent c.args.most _ c.in_ok-numbers.numbers.items _
    c.in_ok-numbers.ensures.state c.as_slice.ensures.value c.in_ok-numbers.ensures.numbers c.in_ok-text.ensures.text
