-- The state of a unit on its channel, and its condition for an interruption (GA22-6821, "Input/Output Operations", states, and input/output interruptions).
use Rattle.std.specs.Prelude.{Bool, true, false, Option, Some, None, is_some, if◌then◌else◌}
use Rattle.s360_channel.specs.declared.{csw.Csw.Csw, unit_state.UnitState.UnitState, unit_control.Condition.Condition, unit_control.UnitControl.UnitControl}
use Rattle.s360_channel.specs.{declared.program.Program.Program, Words.asks_attention, Words.no_channel_status}

-- the program that it executes
abbrev pub program_of : UnitState → Option Program
program_of (UnitState.Active p) = Some p
program_of other = None

abbrev pub is_active : UnitState → Bool
is_active s = is_some (program_of s)

abbrev pub is_waiting : UnitState → Bool
is_waiting (UnitState.Waiting csw) = true
is_waiting other = false

-- nothing is done for it, and it asks for nothing
abbrev pub idle_unit : UnitControl
idle_unit = record { state = UnitState.Idle; attention = false }

-- the status word of attention: attention alone, and else zeros
abbrev pub attention_csw : Csw
attention_csw = record { key = 0; address = 0; unit = asks_attention; channel = no_channel_status; count = 0 }

-- the condition of a unit: the status word that waits, or attention of an idle one. Attention is kept while a status word waits and is taken (own profile)
abbrev pub condition_with : UnitState → Bool → Option Condition
condition_with (UnitState.Waiting csw) attention = Some (record { csw = csw; unit = record { state = UnitState.Idle; attention = attention } })
condition_with UnitState.Idle attention = if attention then Some (record { csw = attention_csw; unit = idle_unit }) else None
condition_with (UnitState.Active p) attention = None

abbrev pub condition_of : UnitControl → Option Condition
condition_of u = condition_with u.state u.attention

-- it has one
abbrev pub is_pending : UnitControl → Bool
is_pending u = is_some (condition_of u)
