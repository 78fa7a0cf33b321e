use Rattle.std.proofs.Common.{◌∙◌, ap}
use Rattle.s360_machine.specs.Machine.{seen}
use Rattle.s360_journal.proofs.RecordedLemmas.{accepted-of, few-of, inside-of, machine-of, session-of, size-of}
use Rattle.s360_journal.proofs.WithdrawalLemmas.{profile-session}
use Rattle.s360_journal.proofs.session.Session.machine.Goals as goal

pub returns-clause-rerun : goal.returns-clause-rerun
returns-clause-rerun c = ap (λ w. seen w) c.machine.ensures ∙ machine-of c.self.inside.journal.whole c.self.inside.timeline.standing c.self.inside.timeline.rest c.self.inside.journal.changes c.self.inside.limit c.self.inside.dropped c.args.self.now (inside-of c.self.inside.journal.whole c.self.inside.timeline.standing c.self.inside.timeline.rest c.self.inside.journal.changes c.self.inside.limit c.self.inside.dropped c.args.self.now c.self.invariant c.self.view_is)

pub returns-clause-accepted : goal.returns-clause-accepted
returns-clause-accepted c = accepted-of c.self.inside.journal.whole c.self.inside.timeline.standing c.self.inside.timeline.rest c.self.inside.journal.changes c.self.inside.limit c.self.inside.dropped c.args.self.now (inside-of c.self.inside.journal.whole c.self.inside.timeline.standing c.self.inside.timeline.rest c.self.inside.journal.changes c.self.inside.limit c.self.inside.dropped c.args.self.now c.self.invariant c.self.view_is)

pub returns-clause-few : goal.returns-clause-few
returns-clause-few c = few-of c.self.inside.journal.whole c.self.inside.timeline.standing c.self.inside.timeline.rest c.self.inside.journal.changes c.self.inside.limit c.self.inside.dropped c.args.self.now (inside-of c.self.inside.journal.whole c.self.inside.timeline.standing c.self.inside.timeline.rest c.self.inside.journal.changes c.self.inside.limit c.self.inside.dropped c.args.self.now c.self.invariant c.self.view_is)

pub returns-clause-size : goal.returns-clause-size
returns-clause-size c = size-of c.self.inside.journal.whole c.self.inside.timeline.standing c.self.inside.timeline.rest c.self.inside.journal.changes c.self.inside.limit c.self.inside.dropped c.args.self.now (inside-of c.self.inside.journal.whole c.self.inside.timeline.standing c.self.inside.timeline.rest c.self.inside.journal.changes c.self.inside.limit c.self.inside.dropped c.args.self.now c.self.invariant c.self.view_is)

pub returns-clause-profile : goal.returns-clause-profile
returns-clause-profile c =
    profile-session c.self.inside.journal.whole c.self.inside.timeline.standing c.self.inside.journal.changes c.self.inside.limit _ c.self.invariant.0
    (session-of c.self.inside.journal.whole c.self.inside.timeline.standing c.self.inside.timeline.rest c.self.inside.journal.changes c.self.inside.limit c.self.inside.dropped c.args.self.now (inside-of c.self.inside.journal.whole c.self.inside.timeline.standing c.self.inside.timeline.rest c.self.inside.journal.changes c.self.inside.limit c.self.inside.dropped c.args.self.now c.self.invariant c.self.view_is))
