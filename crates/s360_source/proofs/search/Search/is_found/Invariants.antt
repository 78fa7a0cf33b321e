use Rattle.std.proofs.Common.{◌≡◌, ◌-◌}
use Rattle.std.specs.Prelude.{is_some}
use Rattle.s360_machine.specs.Machine.{seen}
use Rattle.s360_footprint.specs.LeftToRightRows.{search_read}
use Rattle.s360_footprint.specs.Readings.{run}
use Rattle.s360_source.proofs.search.Search.is_found.Given as goal

abbrev pub invariant-loop-i : goal.invariant-loop-i
invariant-loop-i l =
    is_some (run (search_read l.self.table l.self.first l.i (l.self.count - l.i)) (seen l.machine.whole))
    ≡ is_some (run (search_read l.self.table l.self.first 0 l.self.count) (seen l.machine.whole))
