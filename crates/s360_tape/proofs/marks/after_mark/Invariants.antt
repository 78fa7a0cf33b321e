use Rattle.std.proofs.Common.{length, ◌-◌, ◌≡◌, ◌≤◌, drop}
use Rattle.s360_tape.specs.Items.{after_mark}
use Rattle.s360_tape.proofs.marks.after_mark.Given as goal

abbrev pub invariant-loop-place : goal.invariant-loop-place
invariant-loop-place l = (l.place ≤ length l.items) × (after_mark l.place (drop l.place l.items) ≡ after_mark l.position (drop l.position l.items))

abbrev pub decreases-loop-place : goal.decreases-loop-place
decreases-loop-place l = length l.items - l.place
