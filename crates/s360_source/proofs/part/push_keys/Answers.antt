use Rattle.std.proofs.Common.{◌∙◌}
use Rattle.s360_source.proofs.PartLemmas.{keys_from-more}
use Rattle.s360_source.proofs.part.push_keys.Goals as goal

pub loop-i-preserved : goal.loop-i-preserved
loop-i-preserved c =
    c.in_ok-push.ensures.items ∙ keys_from-more c.loop-i.found.items c.args.found.now.items c.args.block c.loop-i.i c.loop-i.invariant
