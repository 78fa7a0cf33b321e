-- Tables by codes: a list of entries, each with its code.
use Rattle.std.specs.Prelude.{ℕ, nat_eq, if◌then◌else◌, Option, Some, None, List, [], ◌∷◌}

-- the entry of a code, if there is one
abbrev pub entry_in : {X : Type 0} → List (ℕ × X) → ℕ → Option X
entry_in [] code = None
entry_in (e ∷ es) code = if nat_eq code e.0 then Some e.1 else entry_in es code
