use Rattle.std.proofs.Common.{◌-◌}
use Rattle.s360_journal.proofs.RunningLemmas.{IsRunning}
use Rattle.s360_journal.proofs.session.Session.run.Given as goal

abbrev pub invariant-loop-event : goal.invariant-loop-event
invariant-loop-event g l = IsRunning (g.S.Stops.stops_of l.stops) l.turn l.reach l.initial.self l.self l.most (l.most - l._event)
