use Rattle.std.proofs.Common.{◌≡◌, map, take}
use Rattle.s360_machine.specs.Machine.{seen}
use Rattle.s360_trace.specs.StoresTold.{store_met}
use Rattle.s360_trace.proofs.stores_told.stores_met.Given as goal

abbrev pub invariant-loop-place : goal.invariant-loop-place
invariant-loop-place l = l.stores.items ≡ map (store_met (seen l.machine.whole) l.event) (take l.place-index l.place-items)
