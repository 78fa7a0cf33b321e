use Rattle.s360_source.proofs.StoringLemmas.{moved-more, moved-none}
use Rattle.s360_source.proofs.several.push_moved.Goals as goal

pub loop-i-init : goal.loop-i-init
loop-i-init c m = moved-none c.args.question m c.args.kind c.args.r1 c.args.address c.args.found.now.items

pub loop-i-preserved : goal.loop-i-preserved
loop-i-preserved c m =
    moved-more c.args.question m c.args.kind c.args.r1 c.args.address c.loop-i.i c.args.found.now.items c.loop-i.found.items _ (c.loop-i.invariant m)
    c.in_ok-push_moved_word.ensures
