use Rattle.std.proofs.Common.{◌≡◌, ◌+◌, ◌++◌, length, map, take}
use Rattle.s360_channel.specs.UnitChanges.{state_place}
use Rattle.s360_machine.proofs.beside.push_states.Given as goal

abbrev pub invariant-loop-unit : goal.invariant-loop-unit
invariant-loop-unit l = record {
  places : l.places.items ≡ l.initial.places.items ++ map (λ u. state_place u) (take l.unit-index l.units);
  count : length l.places.items ≡ length l.initial.places.items + l.unit-index;
}
