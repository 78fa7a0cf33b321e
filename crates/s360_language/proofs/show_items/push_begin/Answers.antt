use Rattle.s360_language.proofs.ShownLemmas.{begin-pushed}
use Rattle.s360_language.proofs.show_items.push_begin.Goals as goal

pub returns : goal.returns
returns c = begin-pushed c.args.text.now _ _ c.args.bytes.now c.min.result c.if-is_empty.ensures c.min.ensures c.in_ok-push_text.ensures c.in_ok-push_digits.ensures
