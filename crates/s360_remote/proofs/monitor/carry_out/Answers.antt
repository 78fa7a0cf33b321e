use Rattle.std.proofs.Common.{inr, rules}
use Rattle.s360_journal.proofs.RunningLemmas.{OnErr-from}
use Rattle.s360_remote.proofs.MonitorLemmas.{answer-read, state-read}
use Rattle.s360_remote.specs.Monitor.{debugger_of}
use Rattle.s360_remote.proofs.monitor.carry_out.Goals as goal

pub returns-in_err-push_dropped-clause-memory : goal.returns-in_err-push_dropped-clause-memory
returns-in_err-push_dropped-clause-memory c =
    OnErr-from c.from_residual-in_err-push_dropped.result _ (inr (rw (state-read (debugger_of c.args.target.now) c.args.line.now c.requires) (search rules)))

pub returns-clause-text : goal.returns-clause-text
returns-clause-text c =
    rw (
      answer-read (debugger_of c.args.target.now) c.args.line.now c.requires,
      state-read (debugger_of c.args.target.now) c.args.line.now c.requires,
    ) (search rules)

pub returns-clause-state : goal.returns-clause-state
returns-clause-state c = rw (state-read (debugger_of c.args.target.now) c.args.line.now c.requires) (search rules)
