use Rattle.s360_machine.specs.Machine.{seen}
use Rattle.s360_source.specs.Made.{making_of}
use Rattle.s360_source.proofs.MadeLemmas.{read-more}
use Rattle.s360_source.proofs.left_to_right.MadeBytes.push_bytes.Goals as goal

pub loop-i-preserved : goal.loop-i-preserved
loop-i-preserved c =
    read-more (making_of c.args.self.now) c.args.self.now.first _ c.args.count c.loop-i.i (seen c.args.machine.now.whole) c.args.found.now.items
    c.loop-i.found.items _ c.number.ensures.value c.loop-i.invariant c.in_ok-push_byte.ensures
