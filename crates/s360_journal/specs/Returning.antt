-- The way back: changes are taken back one after another, the last first, until the machine is to pause.
use Rattle.std.specs.Prelude.{◌≡◌, ◌≤◌, ℕ, zero, suc, ◌-◌, Bool, false, if◌then◌else◌, List, Option, Some, None, nat_eq}
use Rattle.std.specs.Option.{option_map_or}
use Rattle.s360_machine.specs.declared.event.Event.{Event}
use Rattle.s360_journal.specs.Recorded.{Recorded, session_of, standing_events, with_standing}
use Rattle.s360_journal.specs.Running.{WhereToStop, is_cpu, pause_of}
use Rattle.s360_journal.specs.Standing.{last_of, machine_of}
use Rattle.s360_journal.specs.declared.running.Pause.{Pause}
use Rattle.s360_journal.specs.declared.running.Pause.TheVariants.{Watch, RecordStart, Done}
use Rattle.s360_journal.specs.declared.running.Reach.{Reach}
use Rattle.s360_journal.specs.declared.running.Reach.TheVariants.{Step, Stop}

-- one change less stands
abbrev pub one_back : Recorded → Recorded
one_back r = with_standing r (r.standing - 1)

-- the last of the events is one of the CPU
abbrev pub is_cpu_last : List Event → Bool
is_cpu_last es = option_map_or is_cpu (last_of es) false

-- taking the last change back is as far as was asked
abbrev pub is_reached_back : WhereToStop → Reach → Recorded → Bool
is_reached_back stops Step r = is_cpu_last (standing_events r)
is_reached_back stops Stop r = stops.at (machine_of (session_of (one_back r)))

-- how many changes stand where the machine pauses, and why it does
pub record Paused : Type 0 where
  pub standing : ℕ
  pub why : Pause

-- at most so many changes are taken back. The machine pauses at the start; before a change that altered what is watched, which stands
-- still; and once it went as far as was asked
unfoldable pub back_of : WhereToStop → Reach → Recorded → ℕ → Paused
back_of stops reach r zero = record { standing = r.standing; why = Done }
back_of stops reach r (suc n) =
    if nat_eq r.standing 0 then record { standing = 0; why = RecordStart }
    else (if stops.altered (session_of r) then record { standing = r.standing; why = Watch }
    else (if is_reached_back stops reach r then record { standing = r.standing - 1; why = pause_of reach }
    else back_of stops reach (one_back r) n))

-- one change less stands, unless the machine pauses before it
abbrev pub paused_or : Option Pause → ℕ → Paused → Paused
paused_or (Some why) standing others = record { standing = standing; why = why }
paused_or None standing others = others

pub record IsTakenBack (stops : WhereToStop) (reach : Reach) (r : Recorded) (pause : Option Pause) (t : Recorded) : Type 0 where
  pub back : (n : ℕ) → back_of stops reach r (suc n) ≡ paused_or pause t.standing (back_of stops reach t n)
  pub kept : t ≡ with_standing r t.standing
  pub within : t.standing ≤ r.standing
