use Rattle.std.proofs.Common.{◌≡◌, take, flat_map}
use Rattle.s360_channel.specs.ConfiguredUnits.{configured_units}
use Rattle.s360_machine.specs.Machine.{seen}
use Rattle.s360_inquiry.specs.Situations.{unit_and_device}
use Rattle.s360_inquiry.proofs.situation.units_of.Given as goal

abbrev pub invariant-loop-unit : goal.invariant-loop-unit
invariant-loop-unit l = l.text ≡ flat_map (unit_and_device (seen l.machine.whole)) (take l.unit-index configured_units)
