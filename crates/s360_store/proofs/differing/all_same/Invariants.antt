use Rattle.std.proofs.Common.{◌≡◌, ◌<◌, ℕ, false, get_or}
use Rattle.s360_store.proofs.differing.all_same.Given as goal

abbrev pub invariant-loop-i : goal.invariant-loop-i
invariant-loop-i l = l.is_any_other ≡ false → (j : ℕ) → j < l.i → get_or l.bytes j 0 ≡ get_or l.others j 0
