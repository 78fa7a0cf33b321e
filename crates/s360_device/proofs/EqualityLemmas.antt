-- Tests that decide equality.
use Rattle.std.proofs.Common.{◌≡◌, ◌∙◌, ◌&&◌, Bool, refl, ap, sym}
use Rattle.std.specs.Cmp.Lexicographic.{pointwise}
use Rattle.std.proofs.lemmas.Bool.Decides.{Decides-and, Decides-like}
use Rattle.std.proofs.lemmas.Slice.Eq.{slice_eq-Decides}
use Rattle.s360_device.specs.Differences.{DecidesEquality}

-- of two lists, by a test of their items
pub each : {A : Type 0} {test : A → A → Bool} → DecidesEquality test → DecidesEquality (pointwise test)
each {test = test} d xs ys = slice_eq-Decides d xs ys (pointwise test xs ys) refl

-- of two pairs, by a test of their firsts and one of their seconds
pub both : {A B : Type 0} {f : A → A → Bool} {g : B → B → Bool} → DecidesEquality f → DecidesEquality g → DecidesEquality {A = A × B} (λ p q. f p.0 q.0 && g p.1 q.1)
both {f = f} {g = g} d e p q = Decides-like
    (f p.0 q.0 && g p.1 q.1)
    (λ h i. (h.0 i, h.1 i))
    (λ h. (ap (λ r. r.0) h, ap (λ r. r.1) h))
    (Decides-and (f p.0 q.0) (g p.1 q.1) (d p.0 q.0) (e p.1 q.1))

-- of two values, by a test of their parts, of which each value can be made again
pub by_parts : {A P : Type 0} {test : P → P → Bool} (parts : A → P) (whole : P → A) → ((a : A) → whole (parts a) ≡ a) → DecidesEquality test → DecidesEquality (λ (a b : A). test (parts a) (parts b))
by_parts {test = test} parts whole made d a b = Decides-like
    (test (parts a) (parts b))
    (λ e. sym (made a) ∙ ap whole e ∙ made b)
    (λ e. ap parts e)
    (d (parts a) (parts b))
