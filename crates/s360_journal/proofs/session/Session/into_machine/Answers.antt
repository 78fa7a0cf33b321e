use Rattle.std.proofs.Common.{◌∙◌, ap}
use Rattle.s360_machine.specs.Machine.{seen}
use Rattle.s360_journal.proofs.RecordedLemmas.{inside-of, machine-of, standing-accepted}
use Rattle.s360_journal.proofs.session.Session.into_machine.Goals as goal

pub returns-clause-rerun : goal.returns-clause-rerun
returns-clause-rerun c = ap (λ w. seen w) c.into_machine.ensures ∙ machine-of c.self.inside.journal.whole c.self.inside.timeline.standing c.self.inside.timeline.rest c.self.inside.journal.changes c.self.inside.limit c.self.inside.dropped c.args.self (inside-of c.self.inside.journal.whole c.self.inside.timeline.standing c.self.inside.timeline.rest c.self.inside.journal.changes c.self.inside.limit c.self.inside.dropped c.args.self c.self.invariant c.self.view_is)

pub returns-clause-accepted : goal.returns-clause-accepted
returns-clause-accepted c = standing-accepted c.self.inside.journal.whole c.self.inside.timeline.standing c.self.inside.timeline.rest c.self.inside.journal.changes c.self.inside.limit c.self.inside.dropped c.args.self (inside-of c.self.inside.journal.whole c.self.inside.timeline.standing c.self.inside.timeline.rest c.self.inside.journal.changes c.self.inside.limit c.self.inside.dropped c.args.self c.self.invariant c.self.view_is)
