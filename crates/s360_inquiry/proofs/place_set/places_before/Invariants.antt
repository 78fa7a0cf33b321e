use Rattle.std.proofs.Common.{◌≡◌, [], take, flat_map}
use Rattle.s360_machine.specs.Machine.{seen}
use Rattle.s360_footprint.specs.EventRows.{sources}
use Rattle.s360_inquiry.specs.Causes.{with_places}
use Rattle.s360_inquiry.proofs.place_set.places_before.Given as goal

abbrev pub invariant-loop-place : goal.invariant-loop-place
invariant-loop-place l =
    l.places.keys ≡ with_places [] (flat_map (sources (seen l.machine.whole) l.event) (take l.place-index l.place-items))
