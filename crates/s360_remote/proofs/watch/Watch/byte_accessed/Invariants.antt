use Rattle.std.proofs.Common.{◌≡◌, ◌-◌, ◌+◌}
use Rattle.std.specs.List.{range_with_len}
use Rattle.s360_remote.specs.Accesses.{byte_accessed}
use Rattle.s360_remote.proofs.watch.Watch.byte_accessed.Given as goal

abbrev pub invariant-loop-at : goal.invariant-loop-at
invariant-loop-at l =
    byte_accessed l.accesses l.fn.self.watchpoint (range_with_len l.fn.self.at l.fn.self.count)
    ≡ byte_accessed l.accesses l.fn.self.watchpoint (range_with_len l.at (l.fn.self.at + l.fn.self.count - l.at))
