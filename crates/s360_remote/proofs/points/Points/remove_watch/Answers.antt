use Rattle.std.proofs.Common.{◌≡◌, ◌∙◌, ap, not, rules}
use Rattle.arrayvec.proofs.ArrayVecLemmas.{filter-from_retain}
use Rattle.s360_remote.specs.Points.{Points, Watched, are_same, without_watch}
use Rattle.s360_remote.proofs.points.Points.remove_watch.Goals as goal

pub returns : goal.returns
returns c =
    let left : c.retain.new.self.items ≡ without_watch c.self.inside.watches.items c.args.watch
    = filter-from_retain _ (λ (v : Watched). not (are_same v c.args.watch)) _ (λ x b f' y called. search rules) _ _ c.retain.ensures.filtered
    in ap (λ ws. record { breaks = c.self.inside.breaks; conditional = c.self.inside.conditional.items; watches = ws }) left
    ∙ ap (λ (p : Points). record p { watches = without_watch p.watches c.args.watch }) c.self.view_is
