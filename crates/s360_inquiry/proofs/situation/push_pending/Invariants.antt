use Rattle.std.proofs.Common.{◌≡◌, ◌++◌, take, flat_map}
use Rattle.s360_channel.specs.ConfiguredUnits.{configured_units}
use Rattle.s360_machine.specs.Machine.{seen}
use Rattle.s360_inquiry.specs.Situations.{pending_text}
use Rattle.s360_inquiry.proofs.situation.push_pending.Given as goal

abbrev pub invariant-loop-unit : goal.invariant-loop-unit
invariant-loop-unit l = l.text ≡ l.initial.text ++ flat_map (pending_text (seen l.machine.whole)) (take l.unit-index configured_units)
