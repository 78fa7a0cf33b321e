use Rattle.std.proofs.Common.{◌≡◌, ◌∙◌, ap}
use Rattle.s360_journal.specs.Recorded.{Recorded, session_of, standing_events}
use Rattle.s360_remote.specs.Driven.{Driven}
use Rattle.s360_remote.proofs.RestLemmas.{in-vain-last}
use Rattle.s360_remote.proofs.target.Target.is_last_in_vain.Goals as goal

pub returns : goal.returns
returns c =
    let r : Recorded = c.args.self.now.recorded
    in let same : c.self.inside.session ≡ r = ap (λ (d : Driven). d.recorded) c.self.view_is
    in in-vain-last r c.is_idle.result c.requires
    (λ s e is. c.is_idle.ensures.last s e (ap (λ x. session_of x) same ∙ is))
    (λ none. c.is_idle.ensures.nothing (ap (λ x. standing_events x) same ∙ none))
