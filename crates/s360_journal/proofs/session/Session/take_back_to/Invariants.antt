use Rattle.std.specs.Prelude.{◌≡◌, []}
use Rattle.s360_journal.specs.Recorded.{StaysAlone, session_of}
use Rattle.s360_journal.proofs.WithdrawalLemmas.{TakesOff}
use Rattle.s360_journal.proofs.session.Session.take_back_to.Given as goal

abbrev pub invariant-loop-self : goal.invariant-loop-self
invariant-loop-self l = record {
  off : TakesOff (session_of l.initial.self) (session_of l.self) l.later.standing l.number;
  alone : StaysAlone l.initial.self l.self;
  last : l.later.rest ≡ [];
}

abbrev pub decreases-loop-self : goal.decreases-loop-self
decreases-loop-self l = l.self.standing
