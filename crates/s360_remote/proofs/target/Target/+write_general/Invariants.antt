use Rattle.std.proofs.Common.{◌-◌}
use Rattle.s360_remote.proofs.target.Target.+write_general.Given as goal

abbrev pub decreases-write_general : goal.decreases-write_general
decreases-write_general l = 16 - l.register
