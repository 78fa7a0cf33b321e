use Rattle.std.proofs.Common.{arith}
use Rattle.std.proofs.lemmas.List.{take_rest}
use Rattle.s360_text.proofs.Writes.{Appends-more}
use Rattle.s360_text.proofs.writing.write_whole.Goals as goal

pub loop-at-preserved : goal.loop-at-preserved
loop-at-preserved g c = record {
  within = omega (arith, c.in-Ok.ensures.bound);
  written = Appends-more (g.W.Write.contents c.args.writer.now) (g.W.Write.contents c.loop-at.writer) (g.W.Write.contents c.write.new.self) c.args.text.now c.loop-at.at c.in-Ok.count c.loop-at.invariant.written (rw take_rest at c.in-Ok.ensures.bytes);
}
