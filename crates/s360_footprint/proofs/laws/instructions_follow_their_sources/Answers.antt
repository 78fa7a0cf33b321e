use Rattle.s360_footprint.proofs.InstructionLawLemmas.{instruction-follows}
use Rattle.s360_footprint.proofs.laws.instructions_follow_their_sources.Goals as goal

pub returns : goal.returns
returns c = instruction-follows
