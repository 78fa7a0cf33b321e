use Rattle.std.proofs.Common.{◌≡◌, ◌∙◌, reverse, refl, sym, ap, map-id}
use Rattle.std.proofs.lemmas.Iterator.{items_from_drains}
use Rattle.std.proofs.lemmas.Iterator.Consumers.{YieldsList-from_first}
use Rattle.std.proofs.lemmas.List.{reverse-reverse}
use Rattle.s360_channel.specs.Gathered.{left_of}
use Rattle.s360_channel.proofs.gathered.Gathered.to_vec.Goals as goal

pub returns : goal.returns
returns c =
    let ran = c.in_ok-bytes.ensures.ran
    in let all : c.in_ok-bytes.bytes.items ≡ left_of c.backward.result
    = ran.2.0 ∙ sym (map-id ran.0) ∙ items_from_drains ran.0 ran.1 (YieldsList-from_first (λ x. x) left_of (left_of c.backward.result) refl)
    in c.reverse.ensures.items ∙ ap reverse (all ∙ c.backward.ensures) ∙ reverse-reverse c.args.self.now
