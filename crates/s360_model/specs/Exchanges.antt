-- An exchange of one thing with another, which may be there or not: each becomes something of both (kept).
use Rattle.std.specs.Prelude.{ℕ, Option, Some, None}

-- it can be made
abbrev pub CanIfAny : {D C : Type 0} → (D → C → Type 0) → D → Option C → Type 0
CanIfAny Can d None = Unit {0}
CanIfAny Can d (Some x) = Can d x

-- what both are afterwards
abbrev pub after_if_any : {D C : Type 0} → (D → C → D) → D → Option C → D
after_if_any after d None = d
after_if_any after d (Some x) = after d x

abbrev pub back_if_any : {D C : Type 0} → (D → C → C) → D → Option C → Option C
back_if_any back d None = None
back_if_any back d (Some x) = Some (back d x)

-- the room that it needs
abbrev pub need_if_any : {C : Type 0} → (C → ℕ) → Option C → ℕ
need_if_any needs None = 0
need_if_any needs (Some x) = needs x
