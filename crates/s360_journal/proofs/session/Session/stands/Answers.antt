use Rattle.s360_journal.proofs.RecordedLemmas.{inside-of, session-of}
use Rattle.s360_journal.proofs.WithdrawalLemmas.{allowed-session}
use Rattle.s360_journal.proofs.session.Session.stands.Goals as goal

pub returns-then-number-gt0-clause-allowed : goal.returns-then-number-gt0-clause-allowed
returns-then-number-gt0-clause-allowed c =
    allowed-session c.self.inside.journal.whole c.self.inside.timeline.standing c.self.inside.journal.changes c.self.inside.limit _ c.self.invariant.0
    (session-of c.self.inside.journal.whole c.self.inside.timeline.standing c.self.inside.timeline.rest c.self.inside.journal.changes c.self.inside.limit c.self.inside.dropped c.args.self.now (inside-of c.self.inside.journal.whole c.self.inside.timeline.standing c.self.inside.timeline.rest c.self.inside.journal.changes c.self.inside.limit c.self.inside.dropped c.args.self.now c.self.invariant c.self.view_is))

pub returns-else-number-gt0-clause-allowed : goal.returns-else-number-gt0-clause-allowed
returns-else-number-gt0-clause-allowed c =
    allowed-session c.self.inside.journal.whole c.self.inside.timeline.standing c.self.inside.journal.changes c.self.inside.limit _ c.self.invariant.0
    (session-of c.self.inside.journal.whole c.self.inside.timeline.standing c.self.inside.timeline.rest c.self.inside.journal.changes c.self.inside.limit c.self.inside.dropped c.args.self.now (inside-of c.self.inside.journal.whole c.self.inside.timeline.standing c.self.inside.timeline.rest c.self.inside.journal.changes c.self.inside.limit c.self.inside.dropped c.args.self.now c.self.invariant c.self.view_is))
