use Rattle.std.proofs.Common.{◌≡◌, ◌≤◌, length, max}
use Rattle.s360_journal.specs.Recorded.{with_standing}
use Rattle.s360_journal.proofs.session.Session.again_to.Given as goal

abbrev pub invariant-loop-at : goal.invariant-loop-at
invariant-loop-at l = record {
  kept : l.self ≡ with_standing l.initial.self l._at;
  within : l._at ≤ length l.initial.self.events;
  bounded : l._at ≤ max l.before l.number;
}
