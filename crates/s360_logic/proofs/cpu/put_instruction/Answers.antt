use Rattle.s360_logic.proofs.InstructionLemmas.{PutsInstruction-refused}
use Rattle.s360_logic.proofs.cpu.put_instruction.Goals as goal

pub returns-in-Err : goal.returns-in-Err
returns-in-Err g c = rw (c.not_fetched.ensures, c.psw.ensures.psw) (PutsInstruction-refused _ _ c.args.core.now c.in-Err.code c.requires.none c.in-Err.ensures.err)
