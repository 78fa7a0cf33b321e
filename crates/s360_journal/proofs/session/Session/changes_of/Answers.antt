use Rattle.std.proofs.Common.{◌∙◌, ap, sym}
use Rattle.s360_journal.specs.Rerun.{changes_of as changes_among}
use Rattle.s360_journal.specs.Standing.{Standing}
use Rattle.s360_machine.specs.Machine.{seen}
use Rattle.s360_journal.proofs.IndexLemmas.{changes_of-session}
use Rattle.s360_journal.proofs.RecordedLemmas.{inside-of, session-of}
use Rattle.s360_journal.proofs.session.Session.changes_of.Goals as goal

pub returns : goal.returns
returns c =
    c.numbers.ensures ∙ sym (changes_of-session c.self.inside.journal.whole c.self.inside.timeline.standing c.self.inside.journal.changes c.args.place c.self.invariant.0)
    ∙ ap (λ (s : Standing). changes_among (seen s.start) s.events c.args.place)
    (session-of c.self.inside.journal.whole c.self.inside.timeline.standing c.self.inside.timeline.rest c.self.inside.journal.changes c.self.inside.limit c.self.inside.dropped c.args.self.now (inside-of c.self.inside.journal.whole c.self.inside.timeline.standing c.self.inside.timeline.rest c.self.inside.journal.changes c.self.inside.limit c.self.inside.dropped c.args.self.now c.self.invariant c.self.view_is))
