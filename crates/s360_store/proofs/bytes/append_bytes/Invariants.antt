use Rattle.std.proofs.Common.{◌≡◌, ◌≤◌, ◌+◌, ◌++◌, length, take, vec_capacity}
use Rattle.s360_store.proofs.bytes.append_bytes.Given as goal

abbrev pub invariant-loop-byte : goal.invariant-loop-byte
invariant-loop-byte l = (l.list.items ≡ l.initial.list.items ++ take l.byte-index l.bytes) × (length l.initial.list.items + length l.bytes ≤ vec_capacity l.list)
