-- The lines of changes, which are told one change after another.
use Rattle.std.proofs.Common.{◌≡◌, ◌≤◌, ◌+◌, ◌-◌, ◌++◌, ℕ, List, ap, sym, ◌∙◌, arith, min, append_assoc}
use Rattle.s360_journal.specs.Recorded.{Recorded, with_standing}
use Rattle.s360_language.proofs.ShownLemmas.{told-next}
use Rattle.s360_trace.specs.Trace.{change_lines, header, lines_behind, trace}

-- one change more, of a recording that stands just before it
pub traced-more : (r x : Recorded) (first before : ℕ) (text new : List ℕ) → first ≤ before → x ≡ with_standing r before
    → text ≡ header ++ lines_behind r first (before - first) → new ≡ text ++ change_lines x (before + 1)
    → new ≡ header ++ lines_behind r first (before + 1 - first)
traced-more r x first before text new order kept told more =
    let count : before - first + 1 ≡ before + 1 - first = omega (arith, order)
    in let at : first + (before - first) ≡ before = omega (arith, order)
    in more
    ∙ ap (λ (y : Recorded). text ++ change_lines y (before + 1)) kept
    ∙ ap (λ (t : List ℕ). t ++ change_lines r (before + 1)) told
    ∙ append_assoc header (lines_behind r first (before - first)) (change_lines r (before + 1))
    ∙ ap (λ (t : List ℕ). header ++ t) (sym (told-next (λ b. change_lines r (b + 1)) first (before - first) before at))
    ∙ ap (λ (n : ℕ). header ++ lines_behind r first n) count

-- all changes of a range, as far as they stand
pub traced-all : (r x : Recorded) (from to first before end : ℕ) (text : List ℕ) → x ≡ with_standing r first → first ≡ min (from - 1) r.standing
    → end ≡ min to r.standing → before - first ≡ end - first → text ≡ header ++ lines_behind x first (before - first) → text ≡ trace r from to
traced-all r x from to first before end text kept begins ends count told =
    told
    ∙ ap (λ (y : Recorded). header ++ lines_behind y first (before - first)) kept
    ∙ ap (λ (n : ℕ). header ++ lines_behind r first n) count
    ∙ ap (λ (n : ℕ). header ++ lines_behind r first (n - first)) ends
    ∙ ap (λ (n : ℕ). header ++ lines_behind r n (min to r.standing - n)) begins
