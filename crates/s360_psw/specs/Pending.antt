-- Which interruption the PSW lets happen before an instruction (GA22-6821, "Interruptions", priority of
-- interruptions).
use Rattle.std.specs.Prelude.{ℕ, Bool, ◌&&◌, ◌||◌, if◌then◌else◌, Option, Some, None, is_some}
use Rattle.s360_model.specs.Psw.{channel_mask_of, external_mask_of}
use Rattle.s360_psw.specs.declared.class.Class.{Class}
use Rattle.s360_psw.specs.declared.class.Class.TheVariants.{External, InputOutput}
use Rattle.s360_psw.specs.declared.pending.Pending.{Pending}

-- the mask of the external conditions, of channel 0 or of channel 1 is one
abbrev pub lets_interrupt : ℕ → Bool
lets_interrupt psw = (external_mask_of psw || channel_mask_of psw 0) || channel_mask_of psw 1

-- an external condition is pending and its mask is one
abbrev pub takes_external : ℕ → Pending → Bool
takes_external psw p = external_mask_of psw && (p.timer || p.key)

-- a unit's condition is pending and the mask of its channel is one
abbrev pub takes_input_output : ℕ → Pending → Bool
takes_input_output psw p = (channel_mask_of psw 0 && is_some p.channel0) || (channel_mask_of psw 1 && is_some p.channel1)

-- an external interruption comes before an input/output interruption
abbrev pub next_interruption_of : ℕ → Pending → Option Class
next_interruption_of psw p =
    if takes_external psw p then Some External
    else (if takes_input_output psw p then Some InputOutput else None)
