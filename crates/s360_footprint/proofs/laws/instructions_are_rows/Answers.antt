use Rattle.s360_footprint.proofs.InstructionLawLemmas.{instructions-are-rows}
use Rattle.s360_footprint.proofs.laws.instructions_are_rows.Goals as goal

pub returns : goal.returns
returns c = instructions-are-rows
