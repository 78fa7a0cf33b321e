use Rattle.std.proofs.Common.{◌≡◌, ◌≤◌}
use Rattle.s360_tape.specs.Items.{before_mark}
use Rattle.s360_tape.proofs.marks.before_mark.Given as goal

abbrev pub invariant-loop-place : goal.invariant-loop-place
invariant-loop-place l = (l.place ≤ l.position) × (before_mark l.items l.place ≡ before_mark l.items l.position)

abbrev pub decreases-loop-place : goal.decreases-loop-place
decreases-loop-place l = l.place
