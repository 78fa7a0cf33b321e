use Rattle.std.proofs.Common.{◌≡◌, ◌-◌, ◌+◌}
use Rattle.std.specs.List.{range_with_len}
use Rattle.s360_journal.specs.Recorded.{session_of}
use Rattle.s360_remote.specs.Points.{byte_altered_by}
use Rattle.s360_remote.proofs.watch.Watch.byte_altered_by.Given as goal

abbrev pub invariant-loop-at : goal.invariant-loop-at
invariant-loop-at l = byte_altered_by (session_of l.session) (range_with_len l.fn.self.at l.fn.self.count) l.number ≡ byte_altered_by (session_of l.session) (range_with_len l.at (l.fn.self.at + l.fn.self.count - l.at)) l.number
