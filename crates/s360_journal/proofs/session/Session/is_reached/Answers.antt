use Rattle.std.proofs.Common.{◌∙◌}
use Rattle.s360_journal.proofs.RunningLemmas.{last-after}
use Rattle.s360_journal.proofs.session.Session.is_reached.Goals as goal

pub returns-in-Step : goal.returns-in-Step
returns-in-Step g c = λ s e is. rw c.in-Step.is (c.is_cpu_last.ensures ∙ last-after c.args.self.now s e is)
