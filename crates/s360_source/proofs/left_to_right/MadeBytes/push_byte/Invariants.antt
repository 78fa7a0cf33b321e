use Rattle.std.proofs.Common.{◌≡◌, ◌++◌, ◌<◌}
use Rattle.s360_machine.specs.Machine.{seen}
use Rattle.s360_footprint.specs.LeftToRightRows.{byte_after}
use Rattle.s360_footprint.specs.Readings.{places_read}
use Rattle.s360_source.specs.Made.{making_of}
use Rattle.s360_source.proofs.left_to_right.MadeBytes.push_byte.Given as goal

abbrev pub invariant-loop-number : goal.invariant-loop-number
invariant-loop-number l =
    (l.stored < 65536)
    × (l.found.items ++ places_read (byte_after (making_of l.self) l.self.first l.stored l.at) (seen l.machine.whole)
    ≡ l.initial.found.items ++ places_read (byte_after (making_of l.self) l.self.first l.count l.address) (seen l.machine.whole))

abbrev pub decreases-loop-number : goal.decreases-loop-number
decreases-loop-number l = l.stored
