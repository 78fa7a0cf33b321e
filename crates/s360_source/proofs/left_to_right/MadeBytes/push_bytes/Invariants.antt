use Rattle.std.proofs.Common.{◌≡◌, ◌++◌}
use Rattle.s360_machine.specs.Machine.{seen}
use Rattle.s360_footprint.specs.LeftToRightRows.{made_read}
use Rattle.s360_footprint.specs.Readings.{places_read}
use Rattle.s360_source.specs.Made.{making_of}
use Rattle.s360_source.proofs.left_to_right.MadeBytes.push_bytes.Given as goal

abbrev pub invariant-loop-i : goal.invariant-loop-i
invariant-loop-i l =
    l.found.items ≡ l.initial.found.items ++ places_read (made_read (making_of l.self) l.self.first l.count l.self.first l.i) (seen l.machine.whole)
