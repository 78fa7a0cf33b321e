-- What follows from the definitions of signs and of the carriage.
use Rattle.std.specs.Prelude.{◌≡◌, ◌<◌, ◌≤◌, ℕ, Some}
use Rattle.s360_print.specs.Signs.{ascii_of, ebcdic_of}
use Rattle.s360_print.specs.Positions.{Position}
use Rattle.s360_print.specs.Carriage.{after_lines, after_skip, line_of_channel}

-- a byte has a sign just where the sign is that byte's
pub record SignsInvert : Type 0 where
  pub ebcdic : (byte sign : ℕ) → ascii_of byte ≡ Some sign → ebcdic_of sign ≡ Some byte
  pub ascii : (byte sign : ℕ) → ebcdic_of sign ≡ Some byte → ascii_of byte ≡ Some sign

-- the line that a skip goes to is so many lines further on, at most a page, and no line before it has the channel
pub record IsFirstLineOf (p : Position) (channel : ℕ) : Type 0 where
  pub lines : ℕ
  pub ahead : 1 ≤ lines
  pub within : lines ≤ 66
  pub there : after_lines p lines ≡ after_skip p channel
  pub first : (n : ℕ) → 1 ≤ n → n < lines → (after_lines p n).line ≡ line_of_channel channel → ⊥

abbrev pub SkipGoesToFirstLine : Type 0
SkipGoesToFirstLine = (p : Position) (channel : ℕ) → 1 ≤ p.line → p.line ≤ 66 → 1 ≤ channel → channel ≤ 12 → IsFirstLineOf p channel
