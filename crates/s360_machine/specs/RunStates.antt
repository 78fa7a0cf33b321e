-- Whether the machine runs (GA22-6821, "System Control Panel" and "Status Switching").
use Rattle.std.specs.Prelude.{Bool, true, false}
use Rattle.s360_machine.specs.declared.run_state.RunState.{RunState}
use Rattle.s360_machine.specs.declared.run_state.RunState.TheVariants.{Operating}

abbrev pub is_operating : RunState → Bool
is_operating Operating = true
is_operating r = false
