use Rattle.s360_footprint.proofs.ChannelRowLemmas.{unit-row-is}
use Rattle.s360_footprint.proofs.laws.channels_are_rows.Goals as goal

pub returns : goal.returns
returns c = unit-row-is
