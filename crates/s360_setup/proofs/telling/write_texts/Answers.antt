use Rattle.s360_setup.proofs.Texts.{Appends-next, IsBegun-at, IsBegun-next}
use Rattle.s360_setup.proofs.telling.write_texts.Goals as goal

pub loop-text-preserved : goal.loop-text-preserved
loop-text-preserved g c =
    Appends-next (λ text. text.now) c.args.texts.now c.loop-text.text-index _ (g.W.Write.contents c.args.writer.now) (g.W.Write.contents c.loop-text.writer)
    (g.W.Write.contents c.write_whole.new.writer) c.as_bytes.result.now c.loop-text-test.true c.as_bytes.ensures.value c.loop-text.invariant c.in_ok-write_whole.ensures.ok

pub returns-in_err-write_whole-clause-stopped : goal.returns-in_err-write_whole-clause-stopped
returns-in_err-write_whole-clause-stopped g c =
    IsBegun-next (λ text. text.now) c.args.texts.now c.loop-text.text-index _ (g.W.Write.contents c.args.writer.now) (g.W.Write.contents c.loop-text.writer)
    (g.W.Write.contents c.write_whole.new.writer) c.as_bytes.result.now c.loop-text-test.true c.as_bytes.ensures.value c.loop-text.invariant (IsBegun-at _ _ c.as_bytes.result.now _ c.in_err-write_whole.ensures.part.written)
