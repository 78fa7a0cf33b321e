use Rattle.std.proofs.Common.{◌≡◌, ◌<◌, ◌≤◌, ◌+◌, ◌^◌, length, slice_range}
use Rattle.s360_condition.proofs.fetching.fetch.Given as goal

abbrev pub invariant-loop-index : goal.invariant-loop-index
invariant-loop-index g l = record {
  bytes : l.bytes.items ≡ slice_range (g.T.Readable.target_of l.target).storage l.address (l.address + l.index);
  low : 0 < l.index → l.address + l.index ≤ 2 ^ 32;
  inside : 0 < l.index → l.address + l.index ≤ length (g.T.Readable.target_of l.target).storage;
}
