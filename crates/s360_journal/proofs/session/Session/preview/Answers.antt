use Rattle.s360_journal.proofs.RecordedLemmas.{Inside, alike-back, allowed-of, inside-alike, inside-of, reported-of}
use Rattle.s360_journal.proofs.session.Session.preview.Goals.{Joined-event-3}
use Rattle.s360_journal.proofs.session.Session.preview.Goals as goal

pub make_reported-requires-clause-accepted : goal.make_reported-requires-clause-accepted
make_reported-requires-clause-accepted c = allowed-of c.self.inside.journal.whole c.self.inside.timeline.standing c.self.inside.timeline.rest c.self.inside.journal.changes c.self.inside.limit c.self.inside.dropped c.args.self.now c.args.event (inside-of c.self.inside.journal.whole c.self.inside.timeline.standing c.self.inside.timeline.rest c.self.inside.journal.changes c.self.inside.limit c.self.inside.dropped c.args.self.now c.self.invariant c.self.view_is) c.in_default.ensures

-- the session afterwards
previewed : (c : Joined-event-3) → Inside c.unmake.new.self.whole c.self.inside.timeline.standing c.self.inside.timeline.rest c.unmake.new.self.changes c.self.inside.limit c.self.inside.dropped c.args.self.now
previewed c =
    inside-alike c.self.inside.journal.whole c.unmake.new.self.whole c.self.inside.timeline.standing c.self.inside.timeline.rest c.self.inside.journal.changes c.unmake.new.self.changes c.self.inside.limit c.self.inside.dropped c.args.self.now
    (inside-of c.self.inside.journal.whole c.self.inside.timeline.standing c.self.inside.timeline.rest c.self.inside.journal.changes c.self.inside.limit c.self.inside.dropped c.args.self.now c.self.invariant c.self.view_is) (alike-back c.self.inside.journal c.make_reported.new.self c.unmake.new.self c.args.event c.in_ok-report.ensures.ok c.unmake.ensures)

pub invariant_of-self-2 : goal.invariant_of-self-2
invariant_of-self-2 c = let after = previewed (goal.at.invariant_of-self-2 c).Joined-event-3 in (after.led, after.accepted, after.few, after.limited)

pub returns-clause-report : goal.returns-clause-report
returns-clause-report c =
    reported-of c.self.inside.journal.whole c.make_reported.new.self.whole c.self.inside.timeline.standing c.self.inside.timeline.rest c.self.inside.journal.changes c.make_reported.new.self.changes c.self.inside.limit c.self.inside.dropped c.args.self.now c.args.event c.in_ok-report.report
    (inside-of c.self.inside.journal.whole c.self.inside.timeline.standing c.self.inside.timeline.rest c.self.inside.journal.changes c.self.inside.limit c.self.inside.dropped c.args.self.now c.self.invariant c.self.view_is) c.in_ok-report.ensures.ok c.in_ok-report.ensures.report
