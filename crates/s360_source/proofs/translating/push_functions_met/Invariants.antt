use Rattle.std.proofs.Common.{◌≡◌}
use Rattle.s360_model.specs.Psw.{protection_key_of}
use Rattle.s360_machine.specs.Machine.{seen}
use Rattle.s360_footprint.specs.LeftToRightRows.{translate_met}
use Rattle.s360_footprint.specs.OperandReadings.{profile_of}
use Rattle.s360_footprint.specs.Readings.{places_read, run}
use Rattle.s360_source.specs.Walks.{with_decided}
use Rattle.s360_source.proofs.translating.push_functions_met.Given as goal

abbrev pub invariant-loop-i : goal.invariant-loop-i
invariant-loop-i l =
    (l.met ≡ run (translate_met (profile_of l.machine.whole.core) l.table (protection_key_of l.machine.whole.core.psw) l.first 0 l.i) (seen l.machine.whole))
    × (l.found.items
    ≡ with_decided l.question (places_read (translate_met (profile_of l.machine.whole.core) l.table (protection_key_of l.machine.whole.core.psw) l.first 0 l.i)
    (seen l.machine.whole)) l.initial.found.items)
