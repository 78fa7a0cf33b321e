-- A skip goes to the first line after the present one that has the channel.
use Rattle.std.proofs.Common.{◌≡◌, ◌<◌, ◌≤◌, ◌+◌, ◌-◌, ◌*◌, ◌∙◌, ℕ, Bool, true, false, refl, ap, arith, nat_lt}
use Rattle.std.proofs.lemmas.Bool.Decides.{nat_tests}
use Rattle.s360_print.specs.Positions.{Position, page_after}
use Rattle.s360_print.specs.Carriage.{after_lines, after_skip, line_of_channel}
use Rattle.s360_print.specs.Laws.{IsFirstLineOf, SkipGoesToFirstLine}
use Rattle.s360_print.proofs.CarriageLemmas.{after_lines-here, after_lines-over}

-- a line of this page before it, or after it
line-here : (p : Position) (n : ℕ) → p.line + n ≤ 66 → (after_lines p n).line ≡ p.line + n
line-here p n h = ap (λ (q : Position). q.line) (after_lines-here p n h)

line-over : (p : Position) (n : ℕ) → p.line ≤ 66 → 66 < p.line + n → n ≤ 66 → (after_lines p n).line ≡ p.line + n - 66
line-over p n h k m = ap (λ (q : Position). q.line) (after_lines-over p n h k m)

-- of fewer lines, none has the channel
not-before : (p : Position) (l n : ℕ) → p.line ≤ 66 → n ≤ 66 → (b : Bool) → nat_lt 66 (p.line + n) ≡ b → (p.line + n ≡ l → ⊥) → (66 < p.line + n → p.line + n - 66 ≡ l → ⊥) → (after_lines p n).line ≡ l → ⊥
not-before p l n h m true b f g e =
    let o : 66 < p.line + n = grind (arith, nat_tests)
    in g o (rw (line-over p n h o m) at e)
not-before p l n h m false b f g e =
    let o : p.line + n ≤ 66 = grind (arith, nat_tests)
    in f (rw (line-here p n o) at e)

-- by whether the line of the channel is still ahead on the page
skip_by : (p : Position) (channel : ℕ) (b : Bool) → nat_lt p.line (line_of_channel channel) ≡ b → 1 ≤ p.line → p.line ≤ 66 → 1 ≤ channel → channel ≤ 12 → IsFirstLineOf p channel
skip_by p channel true b h k i j =
    let l : ℕ = 5 * channel - 4
    in let lb : l ≤ 56 = omega arith
    in let d : p.line < l = grind (arith, nat_tests)
    in let s : p.line + (l - p.line) ≡ l = omega arith
    in let there : after_lines p (l - p.line) ≡ after_skip p channel = rw b (after_lines-here p (l - p.line) (omega arith) ∙ ap (λ (m : ℕ). record p { line = m }) s)
    in record {
      lines = l - p.line;
      ahead = omega arith;
      within = omega arith;
      there = there;
      first = λ n a f. not-before p l n k (omega arith) (nat_lt 66 (p.line + n)) refl (λ e. omega arith) (λ o e. omega arith);
    }
skip_by p channel false b h k i j =
    let l : ℕ = 5 * channel - 4
    in let la : 1 ≤ l = omega arith
    in let d : l ≤ p.line = grind (arith, nat_tests)
    in let s : p.line + (l + 66 - p.line) - 66 ≡ l = omega arith
    in let there : after_lines p (l + 66 - p.line) ≡ after_skip p channel = rw b (after_lines-over p (l + 66 - p.line) k (omega arith) (omega arith) ∙ ap (λ (m : ℕ). record { page = page_after p.page; line = m }) s)
    in record {
      lines = l + 66 - p.line;
      ahead = omega arith;
      within = omega arith;
      there = there;
      first = λ n a f. not-before p l n k (omega arith) (nat_lt 66 (p.line + n)) refl (λ e. omega arith) (λ o e. omega arith);
    }

pub skip-goes_to_first_line : SkipGoesToFirstLine
skip-goes_to_first_line p channel = skip_by p channel (nat_lt p.line (line_of_channel channel)) refl
