-- Blocks of bytes.
use Rattle.std.specs.Prelude.{ℕ}

-- most bytes of a block (own profile)
abbrev pub block_limit : ℕ
block_limit = 65535
