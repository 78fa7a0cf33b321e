use Rattle.std.proofs.Common.{◌∙◌}
use Rattle.s360_source.proofs.PartLemmas.{places-more}
use Rattle.s360_source.proofs.part.push_parts.Goals as goal

pub loop-part-preserved : goal.loop-part-preserved
loop-part-preserved c =
    c.in_ok-push_to.ensures
    ∙ places-more c.args.parts.now c.loop-part.part-index c.part-item.result c.loop-part.found.items c.args.found.now.items c.loop-part-test.true
    c.part-item.is c.loop-part.invariant
