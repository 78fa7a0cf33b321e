use Rattle.std.proofs.Common.{◌≡◌, ◌≤◌, filter, length, not, take}
use Rattle.s360_channel.specs.ConfiguredUnits.{configured_units, control_of}
use Rattle.s360_channel.specs.UnitChanges.{same_unit}
use Rattle.s360_channel.proofs.units.Units.altered.Given as goal

abbrev pub invariant-loop-unit : goal.invariant-loop-unit
invariant-loop-unit l = record {
  altered : l.altered.items ≡ filter (λ u. not (same_unit (control_of l.self u) (control_of l.next u))) (take l.unit-index configured_units);
  few : length l.altered.items ≤ l.unit-index;
}
