use Rattle.s360_language.proofs.ShownLemmas.{pushed}
use Rattle.s360_inquiry.proofs.happening.push_channel.Goals as goal

pub returns : goal.returns
returns c = pushed c.args.text.now _ _ _ _ c.in_ok-push_event.ensures c.in_ok-push_unit.ensures
