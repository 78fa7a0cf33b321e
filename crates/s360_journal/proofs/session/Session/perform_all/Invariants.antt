use Rattle.std.proofs.Common.{◌+◌, ◌≤◌, ◌++◌, List, vec_len, vec_capacity, length}
use Rattle.s360_journal.specs.declared.calls.Answer.{Answer}
use Rattle.s360_journal.specs.Recorded.{Recorded}
use Rattle.s360_journal.specs.Calls.{IsRun}
use Rattle.s360_journal.proofs.session.Session.perform_all.Given as goal

abbrev pub invariant-loop-call : goal.invariant-loop-call
invariant-loop-call l = record {
  run : (rest : List Answer) (t : Recorded) → IsRun l.self l.left.items rest t → IsRun l.initial.self l.fn.calls.items (l.answers.items ++ rest) t;
  room : vec_len l.answers + length l.left.items ≤ vec_capacity l.answers;
}

abbrev pub decreases-loop-call : goal.decreases-loop-call
decreases-loop-call l = length l.left.items
