use Rattle.std.proofs.Common.{length, ◌-◌}
use Rattle.s360_tape.specs.NextParts.{IsTaken}
use Rattle.s360_tape.proofs.awstape.items_of.Given as goal

abbrev pub invariant-loop-block : goal.invariant-loop-block
invariant-loop-block l = IsTaken l.file l.place l.inside l.items.items l.block.items

abbrev pub decreases-loop-block : goal.decreases-loop-block
decreases-loop-block l = length l.file - l.place
