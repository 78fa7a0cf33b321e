use Rattle.std.proofs.Common.{◌∙◌}
use Rattle.s360_journal.proofs.RecordedLemmas.{after_next}
use Rattle.s360_inquiry.proofs.history.run_again.Goals as goal

pub returns-in-Ok-clause-state : goal.returns-in-Ok-clause-state
returns-in-Ok-clause-state c = c.in-Ok.ensures.ok ∙ after_next c.args.recording.now c.args.event c.requires.next
