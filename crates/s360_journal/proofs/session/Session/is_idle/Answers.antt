use Rattle.std.proofs.Common.{◌≡◌, ◌∙◌, ◌-◌, [], ap, arith, length, List, Some, subst, sym, slice_get, IsTrue, ◌↔◌}
use Rattle.std.proofs.lemmas.List.{nil_from_length}
use Rattle.s360_store.specs.declared.place.Place.{Place}
use Rattle.s360_machine.specs.Change.{Change}
use Rattle.s360_journal.proofs.RecordedLemmas.{inside-of, session-of, standing-of}
use Rattle.s360_journal.proofs.SessionLemmas.{alteration-session, some-session}
use Rattle.s360_journal.proofs.session.Session.is_idle.Goals as goal

pub returns-clause-last : goal.returns-clause-last
returns-clause-last c = λ s e is.
    let view = (session-of c.self.inside.journal.whole c.self.inside.timeline.standing c.self.inside.timeline.rest c.self.inside.journal.changes c.self.inside.limit c.self.inside.dropped c.args.self.now (inside-of c.self.inside.journal.whole c.self.inside.timeline.standing c.self.inside.timeline.rest c.self.inside.journal.changes c.self.inside.limit c.self.inside.dropped c.args.self.now c.self.invariant c.self.view_is))
    in let last : (x : Change) × (slice_get c.self.inside.journal.changes (length c.self.inside.journal.changes - 1) ≡ Some x) = some-session c.self.inside.journal.whole c.self.inside.timeline.standing c.self.inside.journal.changes c.self.inside.limit _ s e c.self.invariant.0 view is
    in subst (λ (ps : List Place). IsTrue c.is_idle.result ↔ (ps ≡ [])) (alteration-session c.self.inside.journal.whole c.self.inside.timeline.standing c.self.inside.journal.changes last.0 c.self.inside.limit _ s e c.self.invariant.0 view last.1 is) (rw last.1 at c.is_idle.ensures.last)

pub returns-clause-nothing : goal.returns-clause-nothing
returns-clause-nothing c = λ none.
    c.is_idle.ensures.none (nil_from_length c.self.inside.journal.changes (omega (arith, sym c.self.invariant.0.1, ap length (sym (standing-of c.self.inside.journal.whole c.self.inside.timeline.standing c.self.inside.timeline.rest c.self.inside.journal.changes c.self.inside.limit c.self.inside.dropped c.args.self.now (inside-of c.self.inside.journal.whole c.self.inside.timeline.standing c.self.inside.timeline.rest c.self.inside.journal.changes c.self.inside.limit c.self.inside.dropped c.args.self.now c.self.invariant c.self.view_is)) ∙ none))))
