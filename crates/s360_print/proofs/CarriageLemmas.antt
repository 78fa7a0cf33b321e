-- Spacing line by line, as one motion.
use Rattle.std.proofs.Common.{◌≡◌, ◌<◌, ◌≤◌, ◌+◌, ◌-◌, ◌∙◌, ℕ, zero, suc, Bool, true, false, refl, ap, arith, nat_lt}
use Rattle.std.proofs.lemmas.Bool.Decides.{nat_tests}
use Rattle.s360_print.specs.Positions.{Position, page_after, line_after}
use Rattle.s360_print.specs.Carriage.{after_lines}

-- the next line on the page, and after its last line
pub line_after-here : (p : Position) → p.line < 66 → line_after p ≡ record p { line = p.line + 1 }
line_after-here p h = let e : nat_lt p.line 66 ≡ true = grind (arith, nat_tests) in rw e refl

pub line_after-over : (p : Position) → 66 ≤ p.line → line_after p ≡ record { page = page_after p.page; line = 1 }
line_after-over p h = let e : nat_lt p.line 66 ≡ false = grind (arith, nat_tests) in rw e refl

-- lines that end on the page
pub after_lines-here : (p : Position) (n : ℕ) → p.line + n ≤ 66 → after_lines p n ≡ record p { line = p.line + n }
after_lines-here p zero h = let e : p.line ≡ p.line + 0 = omega arith in ap (λ (l : ℕ). record p { line = l }) e
after_lines-here p (suc n) h =
    let next : line_after p ≡ record p { line = p.line + 1 } = line_after-here p (omega arith)
    in let e : p.line + 1 + n ≡ p.line + suc n = omega arith
    in rw next (after_lines-here (record p { line = p.line + 1 }) n (omega arith) ∙ ap (λ (l : ℕ). record p { line = l }) e)

-- lines that end on the page after it
abbrev Over : Position → ℕ → Type 0
Over p n = p.line ≤ 66 → 66 < p.line + n → n ≤ 66 → after_lines p n ≡ record { page = page_after p.page; line = p.line + n - 66 }

-- by whether the page has a line more
over_by : (p : Position) (n : ℕ) → ((q : Position) → Over q n) → (b : Bool) → nat_lt p.line 66 ≡ b → Over p (suc n)
over_by p n rest true b h k m =
    let l : p.line < 66 = grind (arith, nat_tests)
    in let e : p.line + 1 + n - 66 ≡ p.line + suc n - 66 = omega arith
    in rw (line_after-here p l) (rest (record p { line = p.line + 1 }) (omega arith) (omega arith) (omega arith) ∙ ap (λ (l : ℕ). record { page = page_after p.page; line = l }) e)
over_by p n rest false b h k m =
    let l : 66 ≤ p.line = grind (arith, nat_tests)
    in let e : 1 + n ≡ p.line + suc n - 66 = omega arith
    in rw (line_after-over p l) (after_lines-here (record { page = page_after p.page; line = 1 }) n (omega arith) ∙ ap (λ (l : ℕ). record { page = page_after p.page; line = l }) e)

pub after_lines-over : (p : Position) (n : ℕ) → Over p n
after_lines-over p zero = λ h k m. absurd (omega arith)
after_lines-over p (suc n) = over_by p n (λ q. after_lines-over q n) (nat_lt p.line 66) refl
