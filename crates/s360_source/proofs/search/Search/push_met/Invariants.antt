use Rattle.std.proofs.Common.{◌≡◌, ◌-◌}
use Rattle.s360_model.specs.Psw.{protection_key_of}
use Rattle.s360_store.specs.Protection.{met_of_both}
use Rattle.s360_machine.specs.Machine.{seen}
use Rattle.s360_footprint.specs.LeftToRightRows.{search_met}
use Rattle.s360_footprint.specs.OperandReadings.{profile_of}
use Rattle.s360_footprint.specs.Readings.{places_read, run}
use Rattle.s360_source.specs.Walks.{with_decided}
use Rattle.s360_source.proofs.search.Search.push_met.Given as goal

abbrev pub invariant-loop-i : goal.invariant-loop-i
invariant-loop-i l =
    (met_of_both l.met (run (search_met (profile_of l.machine.whole.core) l.self.table (protection_key_of l.machine.whole.core.psw) l.self.first l.i
    (l.self.count - l.i)) (seen l.machine.whole))
    ≡ run (search_met (profile_of l.machine.whole.core) l.self.table (protection_key_of l.machine.whole.core.psw) l.self.first 0 l.self.count)
    (seen l.machine.whole))
    × (with_decided l.question (places_read (search_met (profile_of l.machine.whole.core) l.self.table
    (protection_key_of l.machine.whole.core.psw) l.self.first l.i
    (l.self.count - l.i)) (seen l.machine.whole)) l.found.items
    ≡ with_decided l.question (places_read (search_met (profile_of l.machine.whole.core) l.self.table
    (protection_key_of l.machine.whole.core.psw) l.self.first 0
    l.self.count) (seen l.machine.whole)) l.initial.found.items)
