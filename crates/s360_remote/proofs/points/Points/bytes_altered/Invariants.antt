use Rattle.std.proofs.Common.{◌≡◌, ◌≤◌, drop, length, fold}
use Rattle.s360_journal.specs.Recorded.{session_of}
use Rattle.s360_remote.specs.Points.{bytes_altered, with_altered}
use Rattle.s360_remote.proofs.points.Points.bytes_altered.Given as goal

abbrev pub invariant-loop-watch : goal.invariant-loop-watch
invariant-loop-watch l =
    (bytes_altered (session_of l.session) l.self.watches ≡ fold (λ t v. with_altered (session_of l.session) l.number t v) l.altered (drop l.watch-index l.self.watches))
    × (length l.altered ≤ l.watch-index)
