use Rattle.std.proofs.Common.{◌-◌}
use Rattle.s360_journal.proofs.GoingLemmas.{IsReturning}
use Rattle.s360_journal.proofs.session.Session.run_back.Given as goal

abbrev pub invariant-loop-change : goal.invariant-loop-change
invariant-loop-change g l = IsReturning (g.S.Stops.stops_of l.stops) l.reach l.initial.self l.self l.most (l.most - l._change)
