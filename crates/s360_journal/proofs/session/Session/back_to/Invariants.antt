use Rattle.std.proofs.Common.{◌≡◌, min}
use Rattle.s360_journal.specs.Recorded.{with_standing}
use Rattle.s360_journal.proofs.session.Session.back_to.Given as goal

abbrev pub invariant-loop-self : goal.invariant-loop-self
invariant-loop-self l = record {
  kept : l.self ≡ with_standing l.initial.self l.self.standing;
  least : min l.number l.self.standing ≡ min l.number l.initial.self.standing;
}

abbrev pub decreases-loop-self : goal.decreases-loop-self
decreases-loop-self l = l.self.standing
