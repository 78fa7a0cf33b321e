use Rattle.s360_tape.proofs.ImageLemmas.{IsTaken-start, IsTaken-next}
use Rattle.s360_tape.proofs.awstape.items_of.Goals as goal

pub loop-block-init : goal.loop-block-init
loop-block-init c = rw (c.new-items.ensures.items, c.new-block.ensures.items) (IsTaken-start c.args.file.now)

pub loop-block-preserved : goal.loop-block-preserved
loop-block-preserved c = IsTaken-next c.args.file.now c.loop-block.place c.loop-block.inside c.in-Some.part.kind c.in-Some.part.bytes.now c.count_after-inside.result
    c.loop-block.items.items c.loop-block.block.items c.keep_part.new.items.items c.keep_part.new.block.items
    c.loop-block.invariant
    (rw c.in-Some.is at c.in_ok-part.ensures.part)
    c.count_after-inside.ensures.count
    c.count_after-inside.ensures.short
    c.in_ok-keep_part.ensures.items
    c.in_ok-keep_part.ensures.block
