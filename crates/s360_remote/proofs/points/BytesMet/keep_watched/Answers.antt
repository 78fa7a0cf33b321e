use Rattle.std.proofs.Common.{◌≡◌, ◌∙◌, ap, rules, filter}
use Rattle.arrayvec.proofs.ArrayVecLemmas.{filter-from_retain}
use Rattle.s360_remote.specs.declared.points.Met.{Met}
use Rattle.s360_remote.specs.Points.{is_watched}
use Rattle.s360_remote.proofs.points.BytesMet.keep_watched.Goals as goal

pub returns : goal.returns
returns c =
    let left : c.retain.new.self.items ≡ filter (λ (b : Met). is_watched c.args.points.now.watches b.at) c.self.inside.bytes.items
    = filter-from_retain _ (λ (b : Met). is_watched c.args.points.now.watches b.at) _ (λ x b f' y called. search rules) _ _ c.retain.ensures.filtered
    in left ∙ ap (λ l. filter (λ (b : Met). is_watched c.args.points.now.watches b.at) l) c.self.view_is
