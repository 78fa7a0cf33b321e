-- The last digit of a hexadecimal text.
use Rattle.std.proofs.Common.{◌≡◌, ◌≢◌, ◌-◌, ◌/◌, ◌%◌, ◌++◌, ◌∷◌, [], ℕ, zero, suc, refl, arith}
use Rattle.s360_model.specs.Text.{hex_text, hex_digit}

pub hex_text-last : (w n : ℕ) → w ≢ 0 → hex_text w n ≡ hex_text (w - 1) (n / 16) ++ hex_digit (n % 16) ∷ []
hex_text-last zero n h = absurd (h refl)
hex_text-last (suc w) n h = let e : suc w - 1 ≡ w = omega arith in rw e refl
