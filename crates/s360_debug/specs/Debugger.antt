-- What the debugger keeps from one line of a script to the next (own profile).
use Rattle.std.specs.Prelude.{ℕ, List, []}
use Rattle.s360_journal.specs.Recorded.{Recorded}

-- the session, and the addresses of the breakpoints
pub record Debugger : Type 0 where
  pub session : Recorded
  pub breaks : List ℕ

abbrev pub debugger : Recorded → List ℕ → Debugger
debugger r breaks = record { session = r; breaks = breaks }

-- before the first line no breakpoint is set
abbrev pub new_debugger : Recorded → Debugger
new_debugger r = debugger r []
