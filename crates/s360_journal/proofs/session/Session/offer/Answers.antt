use Rattle.s360_journal.specs.Recorded.{after_event}
use Rattle.s360_journal.proofs.RecordedLemmas.{Inside, allowed-of, inside-after, inside-of, noted-from, room-of, size-of}
use Rattle.s360_journal.proofs.session.Session.offer.Goals.{After-note}
use Rattle.s360_journal.proofs.session.Session.offer.Goals as goal

pub make-requires-clause-accepted : goal.make-requires-clause-accepted
make-requires-clause-accepted c = allowed-of c.self.inside.journal.whole c.self.inside.timeline.standing c.self.inside.timeline.rest c.self.inside.journal.changes c.self.inside.limit c.self.inside.dropped c.args.self.now c.args.event (inside-of c.self.inside.journal.whole c.self.inside.timeline.standing c.self.inside.timeline.rest c.self.inside.journal.changes c.self.inside.limit c.self.inside.dropped c.args.self.now c.self.invariant c.self.view_is) c.in_default.ensures

-- the session afterwards
noted : (c : After-note) → Inside c.make.new.self.whole c.note.new.timeline.standing c.note.new.timeline.rest c.make.new.self.changes c.self.inside.limit c.note.new.dropped (after_event c.args.self.now c.args.event)
noted c =
    let i = (inside-of c.self.inside.journal.whole c.self.inside.timeline.standing c.self.inside.timeline.rest c.self.inside.journal.changes c.self.inside.limit c.self.inside.dropped c.args.self.now c.self.invariant c.self.view_is)
    in inside-after c.self.inside.journal.whole c.make.new.self.whole c.self.inside.timeline.standing c.self.inside.timeline.rest c.note.new.timeline.standing c.note.new.timeline.rest c.self.inside.journal.changes c.make.new.self.changes c.self.inside.limit c.self.inside.dropped c.note.new.dropped c.args.self.now c.args.event c.reserve.new.self.spare c.note.new.timeline.spare i c.in_ok-make.ensures.ok (room-of c.self.inside.journal.whole c.self.inside.timeline.standing c.self.inside.timeline.rest c.self.inside.journal.changes c.self.inside.limit c.self.inside.dropped c.args.self.now c.args.event i c.in_default.ensures)
    (noted-from c.args.event c.reserve.new.self c.note.new.timeline _ _ c.in_ok-reserve.ensures.standing c.in_ok-reserve.ensures.rest c.note.ensures)

pub invariant_of-self-2 : goal.invariant_of-self-2
invariant_of-self-2 c = let after = noted (goal.at.invariant_of-self-2 c).After-note in (after.led, after.accepted, after.few, after.limited)

pub returns-clause-ok : goal.returns-clause-ok
returns-clause-ok c = (noted (goal.at.returns-clause-ok c).After-note).view

-- no event has altered the size of storage
pub returns-in-Some-clause-size : goal.returns-in-Some-clause-size
returns-in-Some-clause-size c = size-of c.self.inside.journal.whole c.self.inside.timeline.standing c.self.inside.timeline.rest c.self.inside.journal.changes c.self.inside.limit c.self.inside.dropped c.args.self.now (inside-of c.self.inside.journal.whole c.self.inside.timeline.standing c.self.inside.timeline.rest c.self.inside.journal.changes c.self.inside.limit c.self.inside.dropped c.args.self.now c.self.invariant c.self.view_is)

pub returns-in_err-reserve-clause-size : goal.returns-in_err-reserve-clause-size
returns-in_err-reserve-clause-size c = size-of c.self.inside.journal.whole c.self.inside.timeline.standing c.self.inside.timeline.rest c.self.inside.journal.changes c.self.inside.limit c.self.inside.dropped c.args.self.now (inside-of c.self.inside.journal.whole c.self.inside.timeline.standing c.self.inside.timeline.rest c.self.inside.journal.changes c.self.inside.limit c.self.inside.dropped c.args.self.now c.self.invariant c.self.view_is)

pub returns-in_err-make-clause-size : goal.returns-in_err-make-clause-size
returns-in_err-make-clause-size c = size-of c.self.inside.journal.whole c.self.inside.timeline.standing c.self.inside.timeline.rest c.self.inside.journal.changes c.self.inside.limit c.self.inside.dropped c.args.self.now (inside-of c.self.inside.journal.whole c.self.inside.timeline.standing c.self.inside.timeline.rest c.self.inside.journal.changes c.self.inside.limit c.self.inside.dropped c.args.self.now c.self.invariant c.self.view_is)

pub returns-clause-size : goal.returns-clause-size
returns-clause-size c = size-of c.self.inside.journal.whole c.self.inside.timeline.standing c.self.inside.timeline.rest c.self.inside.journal.changes c.self.inside.limit c.self.inside.dropped c.args.self.now (inside-of c.self.inside.journal.whole c.self.inside.timeline.standing c.self.inside.timeline.rest c.self.inside.journal.changes c.self.inside.limit c.self.inside.dropped c.args.self.now c.self.invariant c.self.view_is)
