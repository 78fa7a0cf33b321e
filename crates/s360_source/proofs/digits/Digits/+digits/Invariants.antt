use Rattle.std.proofs.Common.{◌+◌, ◌*◌}
use Rattle.s360_source.proofs.digits.Digits.+digits.Given as goal

-- a byte of the result is made of bytes of the second operand, and such a byte of what was stored before
abbrev pub decreases-push_source : goal.decreases-push_source
decreases-push_source l = 3 * l.i + 1

abbrev pub decreases-push_made : goal.decreases-push_made
decreases-push_made l = 3 * l.i + 2

abbrev pub decreases-push_stored : goal.decreases-push_stored
decreases-push_stored l = 3 * l.stored
