-- A change is withdrawn from among those that stand.
use Rattle.std.specs.Prelude.{◌≡◌, ◌++◌, ◌-◌, ℕ, Bool, ◌&&◌, nat_le, nat_lt, List, [], ◌∷◌, length, take, drop, None}
use Rattle.s360_machine.specs.declared.event.Event.{Event}
use Rattle.s360_machine.specs.Refusals.{refusal_of}

-- a change of this number stands; changes are numbered from 1
abbrev pub is_standing : ℕ → List Event → Bool
is_standing k es = nat_lt 0 k && nat_le k (length es)

-- the events without the one of this number: each later one has a number that is lower by one
abbrev pub without_event : ℕ → List Event → List Event
without_event k es = take (k - 1) es ++ drop k es

-- storage of this size refuses none of the events
abbrev pub AreAllowed : ℕ → List Event → Type 0
AreAllowed size [] = Unit {0}
AreAllowed size (e ∷ es) = (refusal_of size e ≡ None) × AreAllowed size es
