-- The last stop at a breakpoint among the machines that events lead through (own profile).
use Rattle.std.specs.Prelude.{ℕ, ◌+◌, List, [], ◌∷◌, Option, Some, None, if◌then◌else◌, unwrap_or}
use Rattle.s360_machine.specs.declared.event.Event.{Event}
use Rattle.s360_machine.specs.Machine.{Machine}
use Rattle.s360_machine.specs.Step.{after}
use Rattle.s360_journal.specs.Breakpoints.{is_at_breakpoint}
use Rattle.s360_journal.specs.Rerun.{or_else}

-- the greatest number of a machine before an event at which the CPU operates at a breakpoint, where the machines are
-- numbered from this one on: a later one comes before an earlier one
abbrev pub last_stop_from : ℕ → Machine → List Event → List ℕ → Option ℕ
last_stop_from k m [] breaks = None
last_stop_from k m (e ∷ es) breaks = or_else (last_stop_from (k + 1) (after m e) es breaks) (if is_at_breakpoint m breaks then Some k else None)

-- how many events lead to the last stop before them all; 0 where there is none
abbrev pub stop_of : Machine → List Event → List ℕ → ℕ
stop_of start es breaks = unwrap_or (last_stop_from 0 start es breaks) 0
