use Rattle.std.proofs.Common.{length}
use Rattle.s360_journal.specs.Recorded.{StaysAlone, session_of}
use Rattle.s360_journal.proofs.WithdrawalLemmas.{GoesOn}
use Rattle.s360_journal.proofs.session.Session.run_all_again.Given as goal

abbrev pub invariant-loop-event : goal.invariant-loop-event
invariant-loop-event l = record {
  on : GoesOn (session_of l.initial.self) (session_of l.self) l.initial.later.standing l.later.standing;
  alone : StaysAlone l.initial.self l.self;
}

abbrev pub decreases-loop-event : goal.decreases-loop-event
decreases-loop-event l = length l.later.standing
