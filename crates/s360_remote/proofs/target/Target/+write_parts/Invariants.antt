use Rattle.std.proofs.Common.{length}
use Rattle.s360_remote.proofs.target.Target.+write_parts.Given as goal

abbrev pub decreases-write_parts : goal.decreases-write_parts
decreases-write_parts l = length l.bytes.now
