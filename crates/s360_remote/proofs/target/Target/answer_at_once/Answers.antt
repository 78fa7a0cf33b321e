use Rattle.std.proofs.Common.{rules}
use Rattle.s360_inquiry.specs.Reading.{inquiry_of}
use Rattle.s360_journal.proofs.RunningLemmas.{OnErr-from}
use Rattle.s360_remote.proofs.MonitorLemmas.{begun-answered}
use Rattle.s360_remote.proofs.target.Target.answer_at_once.Goals as goal

pub returns-in_err-tell_line-clause-begun : goal.returns-in_err-tell_line-clause-begun
returns-in_err-tell_line-clause-begun c =
    OnErr-from c.from_residual-in_err-tell_line.result _
    (c.monitor-text.new.target, begun-answered (inquiry_of c.args.line.now) c.args.line.now c.in_ok-text.field-0 c.args.self.now c.monitor-text.new.target (search rules), search rules)
