use Rattle.s360_journal.proofs.RunningLemmas.{OnErr-from}
use Rattle.s360_journal.proofs.RecordedLemmas.{alike-back, some-led}
use Rattle.s360_journal.proofs.journal.Journal.make_reported.Goals as goal

pub unmake-requires-clause-some : goal.unmake-requires-clause-some
unmake-requires-clause-some c = (some-led c.requires.led.0 c.args.self.now c.make.new.self c.args.event.now c.requires.led.1 c.in_ok-make.ensures.ok).0

pub unmake-requires-clause-led : goal.unmake-requires-clause-led
unmake-requires-clause-led c = (some-led c.requires.led.0 c.args.self.now c.make.new.self c.args.event.now c.requires.led.1 c.in_ok-make.ensures.ok).1

pub returns-then-is_err-clause-err : goal.returns-then-is_err-clause-err
returns-then-is_err-clause-err c = OnErr-from _ _ (alike-back c.args.self.now c.make.new.self c.unmake.new.self c.args.event.now c.in_ok-make.ensures.ok c.unmake.ensures)
