-- The motions of the carriage of the 1403: spacing line by line, and skipping to a channel of the carriage tape
-- (component description of the 1403). The lines of the channels are the own profile.
use Rattle.std.specs.Prelude.{ℕ, zero, suc, ◌≤◌, ◌+◌, ◌-◌, ◌*◌, Bool, false, ◌&&◌, nat_lt, nat_le, if◌then◌else◌}
use Rattle.s360_print.specs.declared.carriage.CarriageMotion.{CarriageMotion}
use Rattle.s360_print.specs.declared.carriage.CarriageMotion.TheVariants.{Space, Skip}
use Rattle.s360_print.specs.Positions.{Position, page_after, line_after}

-- so many lines further on
abbrev pub after_lines : Position → ℕ → Position
after_lines p zero = p
after_lines p (suc n) = after_lines (line_after p) n

-- the line of a channel of the carriage tape (own profile)
abbrev pub line_of_channel : ℕ → ℕ
line_of_channel channel = 5 * channel - 4

-- the next line that has the channel: on this page if it is still ahead, else on the page after it
abbrev pub after_skip : Position → ℕ → Position
after_skip p channel = record {
  page = if nat_lt p.line (line_of_channel channel) then p.page else page_after p.page;
  line = line_of_channel channel;
}

-- the motions that there are: spaces of up to 3 lines, and skips to channels 1 to 12
abbrev pub IsCarriageMotion : CarriageMotion → Type 0
IsCarriageMotion (Space lines) = lines ≤ 3
IsCarriageMotion (Skip channel) = (1 ≤ channel) × (channel ≤ 12)

abbrev pub position_after : Position → CarriageMotion → Position
position_after p (Space lines) = after_lines p lines
position_after p (Skip channel) = after_skip p channel

-- the line that tells that the page's end is near (own profile)
abbrev pub end_line : ℕ
end_line = 56

-- a space from above that line reaches or passes it; a skip does not tell
abbrev pub passes_end : Position → CarriageMotion → Bool
passes_end p (Space lines) = nat_lt p.line end_line && nat_le end_line (p.line + lines)
passes_end p (Skip channel) = false
