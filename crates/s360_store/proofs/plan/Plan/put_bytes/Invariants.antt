use Rattle.std.proofs.Common.{◌≡◌, ◌≤◌, ◌+◌, drop, length}
use Rattle.s360_store.specs.Plans.{after_put_bytes}
use Rattle.s360_store.proofs.plan.Plan.put_bytes.Given as goal

abbrev pub invariant-loop-i : goal.invariant-loop-i
invariant-loop-i l = record {
  cells : after_put_bytes l.self (l.address + l.i) (drop l.i l.bytes) ≡ after_put_bytes l.initial.self l.address l.bytes;
  few : length l.self ≤ length l.initial.self + l.i;
}
