use Rattle.std.proofs.Common.{◌+◌, ◌∙◌, ap, sym, slice_get}
use Rattle.s360_journal.specs.Recorded.{with_standing}
use Rattle.s360_journal.proofs.AgainLemmas.{runs-that}
use Rattle.s360_journal.proofs.RecordedLemmas.{Inside, accepted-of, few-of, first-allowed, inside-of, inside-on, rest-of}
use Rattle.s360_journal.proofs.session.Session.make_again.Goals.{After-on}
use Rattle.s360_journal.proofs.session.Session.make_again.Goals as goal

pub make-requires-clause-accepted : goal.make-requires-clause-accepted
make-requires-clause-accepted c =
    let i = inside-of c.self.inside.journal.whole c.self.inside.timeline.standing c.self.inside.timeline.rest c.self.inside.journal.changes c.self.inside.limit c.self.inside.dropped c.args.self.now c.self.invariant c.self.view_is
    in first-allowed c.self.inside.journal.whole c.self.inside.timeline.rest c.args.event c.self.invariant.1
    (sym c.requires ∙ ap (λ es. slice_get es 0) (rest-of c.self.inside.journal.whole c.self.inside.timeline.standing c.self.inside.timeline.rest c.self.inside.journal.changes c.self.inside.limit c.self.inside.dropped c.args.self.now i))

-- the session afterwards
on : (c : After-on) → Inside c.make.new.self.whole c.on.new.self.standing c.on.new.self.rest c.make.new.self.changes c.self.inside.limit c.self.inside.dropped (with_standing c.args.self.now (c.args.self.now.standing + 1))
on c =
    let i = inside-of c.self.inside.journal.whole c.self.inside.timeline.standing c.self.inside.timeline.rest c.self.inside.journal.changes c.self.inside.limit c.self.inside.dropped c.args.self.now c.self.invariant c.self.view_is
    in inside-on c.self.inside.journal.whole c.make.new.self.whole c.self.inside.timeline.standing c.self.inside.timeline.rest c.on.new.self.standing c.on.new.self.rest c.self.inside.journal.changes c.make.new.self.changes c.self.inside.limit c.self.inside.dropped c.args.self.now c.args.event i c.in_ok-make.ensures.ok
    (sym c.requires ∙ ap (λ es. slice_get es 0) (rest-of c.self.inside.journal.whole c.self.inside.timeline.standing c.self.inside.timeline.rest c.self.inside.journal.changes c.self.inside.limit c.self.inside.dropped c.args.self.now i)) c.on.ensures.standing c.on.ensures.rest

pub invariant_of-self-2 : goal.invariant_of-self-2
invariant_of-self-2 c = let after = on (goal.at.invariant_of-self-2 c).After-on in (after.led, after.accepted, after.few, after.limited)

pub returns-clause-event : goal.returns-clause-event
returns-clause-event c =
    let i = inside-of c.self.inside.journal.whole c.self.inside.timeline.standing c.self.inside.timeline.rest c.self.inside.journal.changes c.self.inside.limit c.self.inside.dropped c.args.self.now c.self.invariant c.self.view_is
    in runs-that c.args.self.now _ c.args.event
    (accepted-of c.self.inside.journal.whole c.self.inside.timeline.standing c.self.inside.timeline.rest c.self.inside.journal.changes c.self.inside.limit c.self.inside.dropped c.args.self.now i)
    (few-of c.self.inside.journal.whole c.self.inside.timeline.standing c.self.inside.timeline.rest c.self.inside.journal.changes c.self.inside.limit c.self.inside.dropped c.args.self.now i)
    c.requires (on (goal.at.returns-clause-event c).After-on).view

pub returns-clause-state : goal.returns-clause-state
returns-clause-state c = (on (goal.at.returns-clause-state c).After-on).view
