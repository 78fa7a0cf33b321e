use Rattle.std.proofs.Common.{◌≡◌, ◌++◌, take, flat_map}
use Rattle.s360_machine.specs.Machine.{seen}
use Rattle.s360_source.specs.{EventWalks.stores_before, Walks.sources_by}
use Rattle.s360_source.proofs.interruption.push_sources_before.Given as goal

abbrev pub invariant-loop-place : goal.invariant-loop-place
invariant-loop-place l =
    l.found.items
    ≡ l.initial.found.items ++ flat_map (sources_by (seen l.machine.whole) (stores_before (seen l.machine.whole) l.before)) (take l.place-index l.places)
