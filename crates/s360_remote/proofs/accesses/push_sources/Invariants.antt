use Rattle.std.proofs.Common.{◌≡◌, ◌++◌, take, flat_map}
use Rattle.s360_footprint.specs.EventRows.{sources}
use Rattle.s360_remote.proofs.accesses.push_sources.Given as goal

abbrev pub invariant-loop-place : goal.invariant-loop-place
invariant-loop-place l = l.read.items ≡ l.initial.read.items ++ flat_map (sources l.footprint.machine l.footprint.event) (take l.place-index l.places)
