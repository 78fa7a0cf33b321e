-- The timer: the signed word at decimal 80, which counts down (GA22-6821, "System Structure",
-- interval timer).
use Rattle.std.specs.Prelude.{ℕ, Bool, not, ◌&&◌, if◌then◌else◌, true, pos, int_lt}
use Rattle.std.specs.Int.{bytes_high_first}
use Rattle.s360_model.specs.Arithmetic.{signed_difference, word_of}
use Rattle.s360_model.specs.Core.{Core, core_with_bytes}
use Rattle.s360_model.specs.Numbers.{signed}
use Rattle.s360_model.specs.Storage.{word_at}
use Rattle.s360_machine.specs.Machine.{Control, Machine}
use Rattle.s360_machine.specs.RunStates.{is_operating}

abbrev pub timer_location : ℕ
timer_location = 80

abbrev pub timer_of : Core → ℕ
timer_of m = word_at m.storage.bytes timer_location

-- a tick subtracts 256 (own profile)
abbrev pub timer_after_tick : ℕ → ℕ
timer_after_tick word = word_of (signed_difference word 256)

abbrev pub is_negative : ℕ → Bool
is_negative word = int_lt (signed word) (pos 0)

-- it passes from zero or more to a negative number
abbrev pub runs_out : ℕ → Bool
runs_out word = not (is_negative word) && is_negative (timer_after_tick word)

-- no store of the timer is protected
abbrev pub core_after_tick : Core → Core
core_after_tick m = core_with_bytes timer_location (bytes_high_first 4 (timer_after_tick (timer_of m))) m

-- the timer condition becomes pending where the timer runs out
abbrev pub control_after_tick : ℕ → Control → Control
control_after_tick word c = if runs_out word then record c { external = record c.external { timer = true } } else c

-- a tick changes nothing while the machine is stopped, or loads (own profile)
abbrev pub after_tick : Machine → Machine
after_tick m =
    if is_operating m.control.run_state
    then record m { core = core_after_tick m.core; control = control_after_tick (timer_of m.core) m.control }
    else m
