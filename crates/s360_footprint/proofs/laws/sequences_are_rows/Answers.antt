use Rattle.s360_footprint.proofs.SequenceLemmas.{sequences-are-rows}
use Rattle.s360_footprint.proofs.laws.sequences_are_rows.Goals as goal

pub returns : goal.returns
returns g c = sequences-are-rows _ _
