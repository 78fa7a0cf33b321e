use Rattle.std.proofs.Common.{◌-◌, take}
use Rattle.std.proofs.lemmas.Result.{on_ok_weaker}
use Rattle.s360_machine.specs.Change.{Change}
use Rattle.s360_machine.specs.ChangeSpans.{AreSpansOf, spans_within, spans_apart}
use Rattle.s360_journal.proofs.IndexLemmas.{IsLastOf, index-all, indexing-all, indexing-begun, indexing-more, indexing-part, last-of}
use Rattle.s360_journal.proofs.RunningLemmas.{OnErr-from}
use Rattle.s360_journal.proofs.SizeLemmas.{spans-within}
use Rattle.s360_journal.proofs.indexing.put_last.Goals as goal

pub put_within-requires : goal.put_within-requires
put_within-requires c =
    let last : (x : Change) × IsLastOf c.args.changes.now c.args.number x = last-of c.args.changes.now c.args.number c.requires.some c.requires.last
    in let spans : AreSpansOf (spans_within c.in-Within.spans) last.0 = rw last.1.found_last at c.in-Within.ensures
    in spans-within (spans_within c.in-Within.spans) last.0 spans (rw last.1.found at c.requires.size)

pub returns-in-Within-clause-ok : goal.returns-in-Within-clause-ok
returns-in-Within-clause-ok c =
    let last : (x : Change) × IsLastOf c.args.changes.now c.args.number x = last-of c.args.changes.now c.args.number c.requires.some c.requires.last
    in let spans : AreSpansOf (spans_within c.in-Within.spans) last.0 = rw last.1.found_last at c.in-Within.ensures
    in on_ok_weaker c.put_within.result (index-all c.args.index.now c.put_within.new.index (take (c.args.number - 1) c.args.changes.now) c.args.changes.now last.0 c.args.number
    (spans_within c.in-Within.spans) last.1.split last.1.count spans c.requires.index) c.put_within.ensures.ok

pub loop-span-init : goal.loop-span-init
loop-span-init c =
    let last : (x : Change) × IsLastOf c.args.changes.now c.args.number x = last-of c.args.changes.now c.args.number c.requires.some c.requires.last
    in let spans : AreSpansOf (spans_apart c.into_iter-span-iterator.result) last.0 = rw c.into_iter-span-iterator.ensures.into_iter_gives (rw last.1.found_last at c.in-Apart.ensures)
    in indexing-begun c.args.number c.args.index.now (spans_apart c.into_iter-span-iterator.result)
    (spans-within (spans_apart c.into_iter-span-iterator.result) last.0 spans (rw last.1.found at c.requires.size))

pub loop-span-preserved : goal.loop-span-preserved
loop-span-preserved c =
    indexing-more c.args.number c.args.index.now c.loop-span.index c.put_apart.new.index (spans_apart c.into_iter-span-iterator.result) (spans_apart c.loop-span.span-iterator) (spans_apart c.next.new.self) c.in-Some.span
    c.in-Some.ensures.steps c.loop-span.invariant c.in_ok-put_apart-in-Apart.ensures.ok

pub returns-in_err-put_apart-in-Apart-clause-err : goal.returns-in_err-put_apart-in-Apart-clause-err
returns-in_err-put_apart-in-Apart-clause-err c =
    let last : (x : Change) × IsLastOf c.args.changes.now c.args.number x = last-of c.args.changes.now c.args.number c.requires.some c.requires.last
    in let spans : AreSpansOf (spans_apart c.into_iter-span-iterator.result) last.0 = rw c.into_iter-span-iterator.ensures.into_iter_gives (rw last.1.found_last at c.in-Apart.ensures)
    in rw last.1.found (OnErr-from c.from_residual.result _ (indexing-part c.args.index.now c.loop-span.index c.put_apart.new.index (take (c.args.number - 1) c.args.changes.now) last.0 c.args.number
    (spans_apart c.into_iter-span-iterator.result) (spans_apart c.loop-span.span-iterator) (spans_apart c.next.new.self) c.in-Some.span c.in-Some.ensures.steps last.1.count spans c.requires.index c.loop-span.invariant c.in_err-put_apart-in-Apart.ensures.err))

pub returns-in-None-clause-ok : goal.returns-in-None-clause-ok
returns-in-None-clause-ok c =
    let last : (x : Change) × IsLastOf c.args.changes.now c.args.number x = last-of c.args.changes.now c.args.number c.requires.some c.requires.last
    in let spans : AreSpansOf (spans_apart c.into_iter-span-iterator.result) last.0 = rw c.into_iter-span-iterator.ensures.into_iter_gives (rw last.1.found_last at c.in-Apart.ensures)
    in indexing-all c.args.index.now c.loop-span.index (take (c.args.number - 1) c.args.changes.now) c.args.changes.now last.0 c.args.number (spans_apart c.into_iter-span-iterator.result) (spans_apart c.loop-span.span-iterator)
    c.in-None.ensures.steps.0 last.1.split last.1.count spans c.requires.index c.loop-span.invariant
