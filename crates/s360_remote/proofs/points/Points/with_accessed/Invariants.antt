use Rattle.std.proofs.Common.{◌≡◌, ◌≤◌, ◌+◌, drop, length, fold}
use Rattle.s360_remote.specs.Accesses.{with_accessed}
use Rattle.s360_remote.proofs.points.Points.with_accessed.Given as goal

abbrev pub invariant-loop-watch : goal.invariant-loop-watch
invariant-loop-watch l =
    (fold (λ t v. with_accessed l.accesses t v) l.fn.altered l.self.watches ≡ fold (λ t v. with_accessed l.accesses t v) l.met (drop l.watch-index l.self.watches))
    × (length l.met ≤ 64 + l.watch-index)
