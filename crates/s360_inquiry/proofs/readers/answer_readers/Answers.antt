use Rattle.s360_inquiry.proofs.ReaderLemmas.{readers-told}
use Rattle.s360_inquiry.proofs.readers.answer_readers.Goals as goal

pub returns-clause-text : goal.returns-clause-text
returns-clause-text c =
    readers-told c.args.recording.now c.last_numbers.new.recording c.args.extent c.args.most _ c.in_ok-numbers.numbers.items _
    c.in_ok-numbers.ensures.state c.as_slice.ensures.value c.in_ok-numbers.ensures.numbers c.in_ok-text.ensures.text
