use Rattle.std.proofs.Common.{ap, refl}
use Rattle.s360_journal.specs.Recorded.{Recorded, with_standing}
use Rattle.s360_inquiry.proofs.ChainLemmas.{tells-same}
use Rattle.s360_inquiry.proofs.why.Chain.tell.Goals as goal

pub returns-in-Some-clause-told : goal.returns-in-Some-clause-told
returns-in-Some-clause-told c =
    tells-same c.tell_making.result _ (with_standing c.args.recording.now 0) c.args.self.detail _ _ _ _ c.args.telling.now _ refl
    c.in-Some.ensures.number c.in-Some.ensures.extent c.tell_making.ensures.told

pub returns-in_ok-making-in-None-clause-told : goal.returns-in_ok-making-in-None-clause-told
returns-in_ok-making-in-None-clause-told c =
    tells-same c.tell_making-in-None.result (with_standing c.args.recording.now 0) _ c.args.self.detail _ _ _ _ c.args.telling.now _
    (ap (λ (r : Recorded). with_standing r 0) c.in_ok-making-in-None.ensures.state)
    c.in_ok-making-in-None.ensures.number c.in_ok-making-in-None.ensures.extent c.tell_making-in-None.ensures.told
