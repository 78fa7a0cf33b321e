-- Breakpoints: the addresses at which the debugger is to stop, in the order in which they were set (own profile).
use Rattle.std.specs.Prelude.{◌≢◌, ◌≤◌, ℕ, Bool, not, ◌&&◌, ◌||◌, nat_eq, nat_le, if◌then◌else◌, List, [], ◌∷◌, ◌++◌, length}
use Rattle.std.specs.List.{filter, list_any, AllPairs}
use Rattle.s360_model.specs.Psw.{instruction_address_of, wait_of}
use Rattle.s360_machine.specs.Machine.{Machine}
use Rattle.s360_machine.specs.RunStates.{is_operating}

-- so many can be set
abbrev pub most_breakpoints : ℕ
most_breakpoints = 64

-- a set of addresses: no two are the same, and they are not too many
pub record AreBreakpoints (breaks : List ℕ) : Type 0 where
  pub apart : AllPairs (λ first later. first ≢ later) breaks
  pub few : length breaks ≤ most_breakpoints

-- an address is one of them
abbrev pub has_address : List ℕ → ℕ → Bool
has_address breaks address = list_any (λ a. nat_eq a address) breaks

-- no more can be set
abbrev pub is_full : List ℕ → Bool
is_full breaks = nat_le most_breakpoints (length breaks)

-- an address can be set: it is one of them, or one more can be
abbrev pub has_room_for : List ℕ → ℕ → Bool
has_room_for breaks address = has_address breaks address || not (is_full breaks)

-- with an address as the last; they stay as they are where it is one of them or no more can be set
abbrev pub with_address : List ℕ → ℕ → List ℕ
with_address breaks address = if has_address breaks address || is_full breaks then breaks else breaks ++ address ∷ []

-- without an address, the others in their order
abbrev pub without_address : List ℕ → ℕ → List ℕ
without_address breaks address = filter (λ a. not (nat_eq a address)) breaks

-- the CPU operates at a breakpoint: it is operating and not waiting, and its next instruction is at one
abbrev pub is_at_breakpoint : Machine → List ℕ → Bool
is_at_breakpoint m breaks = is_operating m.control.run_state && not (wait_of m.core.psw) && has_address breaks (instruction_address_of m.core.psw)
