use Rattle.s360_journal.proofs.RunLemmas.{IsAnswer-advance, IsAnswer-back, IsAnswer-forward, IsAnswer-preview}
use Rattle.s360_journal.proofs.session.Session.perform.Goals as goal

pub returns-in-Forward : goal.returns-in-Forward
returns-in-Forward c =
    rw c.in-Forward.is (IsAnswer-forward c.args.self.now c.forward.new.self c.in-Forward.event c.forward.result c.forward.ensures.ok c.forward.ensures.report c.forward.ensures.err c.forward.ensures.refused)

pub returns-in-Advance : goal.returns-in-Advance
returns-in-Advance c =
    rw c.in-Advance.is (IsAnswer-advance c.args.self.now c.advance.new.self c.in-Advance.event c.advance.result c.advance.ensures.ok c.advance.ensures.err c.advance.ensures.refused)

pub returns-in-Preview : goal.returns-in-Preview
returns-in-Preview c =
    rw c.in-Preview.is (IsAnswer-preview c.args.self.now c.preview.new.self c.in-Preview.event c.preview.result c.preview.ensures.same c.preview.ensures.report c.preview.ensures.refused)

pub returns-in-Back : goal.returns-in-Back
returns-in-Back c =
    rw c.in-Back.is (IsAnswer-back c.args.self.now c.back.new.self c.back.result c.back.ensures.ok c.back.ensures.recorded c.back.ensures.err c.back.ensures.nothing)
