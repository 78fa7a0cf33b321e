use Rattle.std.proofs.Common.{rules}
use Rattle.s360_condition.proofs.ReadingLemmas.{read_more}
use Rattle.s360_condition.proofs.decoder.instructions_in.Goals as goal

pub loop-at-preserved : goal.loop-at-preserved
loop-at-preserved c =
    read_more c.args.bytes.now c.loop-at.at c.in_ok-instruction.operand_bytes c.loop-at.instructions.items c.push.new.self.items c.in_ok-instruction.instruction
    c.loop-at-test.true c.loop-at.invariant c.in_ok-instruction.ensures.instruction c.in_ok-instruction.ensures.within (search rules)
