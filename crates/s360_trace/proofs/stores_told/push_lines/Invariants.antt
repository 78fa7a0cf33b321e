use Rattle.std.proofs.Common.{◌≡◌, ◌++◌, take, flat_map}
use Rattle.s360_machine.specs.Machine.{seen}
use Rattle.s360_trace.specs.StoresTold.{store_line}
use Rattle.s360_trace.proofs.stores_told.push_lines.Given as goal

abbrev pub invariant-loop-store : goal.invariant-loop-store
invariant-loop-store l = l.text ≡ l.initial.text ++ flat_map (store_line l.event (seen l.machine.whole)) (take l.store-index l.stores)
