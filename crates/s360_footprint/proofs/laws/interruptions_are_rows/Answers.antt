use Rattle.s360_footprint.proofs.InterruptionRowLemmas.{interruptions-are-rows}
use Rattle.s360_footprint.proofs.laws.interruptions_are_rows.Goals as goal

pub returns : goal.returns
returns c = interruptions-are-rows
