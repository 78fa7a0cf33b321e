use Rattle.std.proofs.Common.{◌-◌, ◌≡◌, ◌<◌, ◌≤◌, ℕ, slice_get, Some}
use Rattle.s360_index.proofs.segments.end_of_unaltered.Given as goal

abbrev pub invariant-loop-at : goal.invariant-loop-at
invariant-loop-at l = record {
  forward : l.start ≤ l.at;
  inside : l.at ≤ l.end;
  unaltered : (a : ℕ) → l.start ≤ a → a < l.at → slice_get l.labels a ≡ Some 0;
}

abbrev pub decreases-loop-at : goal.decreases-loop-at
decreases-loop-at l = l.end - l.at
