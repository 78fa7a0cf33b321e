-- A hexadecimal digit that is written is read, and a test that fails.
use Rattle.std.proofs.Common.{◌≡◌, ◌<◌, ℕ, Bool, true, false, not, refl, arith, lt-ltb}
use Rattle.std.proofs.lemmas.Str.{digit_value-digit_char}
use Rattle.std.specs.Char.{digit_char, is_digit}

pub digit_read : (d : ℕ) → d < 16 → is_digit (digit_char d) 16 ≡ true
digit_read d low = rw (digit_value-digit_char d (omega arith)) (lt-ltb d 16 low)

pub not_true : (b : Bool) → not b ≡ true → b ≡ false
not_true true h = cc
not_true false h = refl
