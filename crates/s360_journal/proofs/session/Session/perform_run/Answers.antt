use Rattle.s360_journal.proofs.RunLemmas.{IsAnswer-run}
use Rattle.s360_journal.proofs.session.Session.perform_run.Goals as goal

pub returns : goal.returns
returns c =
    IsAnswer-run c.args.self.now c.run-end.new.self c.args.breaks.now c.args.turn c.args.reach c.args.most c.standing-before.result c.standing.result c.run-end.result
    c.standing-before.ensures.events c.standing.ensures.events c.run-end.ensures.end c.run-end.ensures.state c.run-end.ensures.memory
