use Rattle.std.proofs.Common.{length, ◌-◌}
use Rattle.s360_tape.specs.NextParts.{IsScanned}
use Rattle.s360_tape.proofs.awstape.check_file.Given as goal

abbrev pub invariant-loop-part : goal.invariant-loop-part
invariant-loop-part l = IsScanned l.file l.place l.inside

abbrev pub decreases-loop-part : goal.decreases-loop-part
decreases-loop-part l = length l.file - l.place
