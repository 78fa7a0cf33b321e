use Rattle.s360_tape.proofs.ImageLemmas.{IsScanned-start, IsScanned-next, IsSomeTapeFile-scanned}
use Rattle.s360_tape.proofs.awstape.check_file.Goals as goal

pub loop-part-init : goal.loop-part-init
loop-part-init c = IsScanned-start c.args.file.now

pub loop-part-preserved : goal.loop-part-preserved
loop-part-preserved c = IsScanned-next c.args.file.now c.loop-part.place c.loop-part.inside c.in-Some.part.kind c.in-Some.part.bytes.now c.count_after-inside.result
    c.loop-part.invariant
    (rw c.in-Some.is at c.in_ok-part.ensures.part)
    c.count_after-inside.ensures.count
    c.count_after-inside.ensures.short

pub returns-clause-ok : goal.returns-clause-ok
returns-clause-ok c =
    let end = c.in_ok-part.ensures.end c.in_default.is
    in IsSomeTapeFile-scanned c.args.file.now c.loop-part.place (rw end.1 at c.loop-part.invariant) end.0
