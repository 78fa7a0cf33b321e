use Rattle.std.proofs.Common.{◌<◌, ◌-◌, ◌∙◌, length}
use Rattle.s360_journal.specs.Recorded.{with_standing}
use Rattle.s360_journal.proofs.RecordedLemmas.{Inside, inside-back, inside-of, some-stand, within-of}
use Rattle.s360_journal.proofs.GoingLemmas.{session_of-back}
use Rattle.s360_journal.proofs.session.Session.step_back.Goals.{After-back}
use Rattle.s360_journal.proofs.session.Session.step_back.Goals as goal

-- the session afterwards
back : (c : After-back) → Inside c.unmake.new.self.whole c.back.new.self.standing c.back.new.self.rest c.unmake.new.self.changes c.self.inside.limit c.self.inside.dropped (with_standing c.args.self.now (c.args.self.now.standing - 1))
back c =
    let i = (inside-of c.self.inside.journal.whole c.self.inside.timeline.standing c.self.inside.timeline.rest c.self.inside.journal.changes c.self.inside.limit c.self.inside.dropped c.args.self.now c.self.invariant c.self.view_is)
    in let some : 0 < length c.self.inside.timeline.standing = some-stand c.self.inside.journal.whole c.self.inside.timeline.standing c.self.inside.timeline.rest c.self.inside.journal.changes c.self.inside.limit c.self.inside.dropped c.args.self.now i (λ none. c.if-len-eq0.false (c.len.ensures.len ∙ none))
    in inside-back c.self.inside.journal.whole c.unmake.new.self.whole c.self.inside.timeline.standing c.self.inside.timeline.rest c.back.new.self.standing c.back.new.self.rest c.self.inside.journal.changes c.unmake.new.self.changes c.self.inside.limit c.self.inside.dropped c.args.self.now i c.unmake.ensures some c.back.ensures.standing c.back.ensures.rest

pub invariant_of-self : goal.invariant_of-self
invariant_of-self c = let after = back (goal.at.invariant_of-self c).After-back in (after.led, after.accepted, after.few, after.limited)

pub returns-clause-state : goal.returns-clause-state
returns-clause-state c = (back (goal.at.returns-clause-state c).After-back).view

pub returns-clause-stands : goal.returns-clause-stands
returns-clause-stands c =
    let after = back (goal.at.returns-clause-stands c).After-back
    in session_of-back c.args.self.now _ (within-of c.self.inside.journal.whole c.self.inside.timeline.standing c.self.inside.timeline.rest c.self.inside.journal.changes c.self.inside.limit c.self.inside.dropped c.args.self.now (inside-of c.self.inside.journal.whole c.self.inside.timeline.standing c.self.inside.timeline.rest c.self.inside.journal.changes c.self.inside.limit c.self.inside.dropped c.args.self.now c.self.invariant c.self.view_is)) after.view
