use Rattle.s360_footprint.proofs.InstructionLawLemmas.{instruction-decided}
use Rattle.s360_footprint.proofs.laws.deciders_decide_the_instruction.Goals as goal

pub returns : goal.returns
returns c = instruction-decided
