-- Lines that are typed or entered at the 1052.
use Rattle.std.specs.Prelude.{ℕ}

-- the most bytes of a line (own profile)
abbrev pub line_limit : ℕ
line_limit = 256
