-- The last of some numbers that something holds of, which are found from the last one on.
use Rattle.std.proofs.Common.{◌≡◌, ◌<◌, ◌≤◌, ◌+◌, ◌-◌, ◌++◌, ℕ, zero, suc, Bool, true, false, Some, List, [], ◌∷◌, ap, sym, ◌∙◌, refl, arith, append_assoc, drop, length, length-append, reverse, if◌then◌else◌}
use Rattle.std.proofs.lemmas.List.{append-nil, length-reverse, reverse-append}
use Rattle.std.proofs.Math.Seq.{drop-append_seam}
use Rattle.s360_journal.specs.Recorded.{Recorded, with_standing}
use Rattle.s360_inquiry.specs.Changes.{last_of}
use Rattle.s360_inquiry.specs.Searches.{last_up_to, numbers_since}
use Rattle.s360_inquiry.specs.Sought.{ends, is_sought}
use Rattle.s360_inquiry.specs.declared.search.Sought.{Sought}
use Rattle.s360_inquiry.specs.declared.search.Sought.TheVariants.{Visits, Jumps, CodeSettings, Interruptions, SupervisorCalls, Stores, Readers}

-- those up to a number, if the search ends there or not
abbrev since : (ℕ → Bool) → (ℕ → Bool) → ℕ → Bool → List ℕ
since ends holds n b = if b then [] else numbers_since ends holds n ++ (if holds (suc n) then suc n ∷ [] else [])

-- as many are found as there may be
pub last-found : (most : ℕ) (all others found : List ℕ) → length found ≡ most → all ≡ others ++ reverse found → reverse found ≡ last_of most all
last-found most all others found count told =
    let turned : length (reverse found) ≡ length found = length-reverse found
    in let before : length (others ++ reverse found) - most ≡ length others = omega (arith, count, turned, length-append others (reverse found))
    in sym (
    ap (λ (ns : List ℕ). last_of most ns) told
    ∙ ap (λ (n : ℕ). drop n (others ++ reverse found)) before
    ∙ drop-append_seam others (reverse found)
    )

-- all are found, and no more than there may be
pub last-all : (most : ℕ) (all found : List ℕ) → length found ≤ most → all ≡ reverse found → reverse found ≡ last_of most all
last-all most all found few whole =
    let none : length (reverse found) - most ≡ 0 = omega (arith, few, length-reverse found)
    in sym (ap (λ (ns : List ℕ). last_of most ns) whole ∙ ap (λ (k : ℕ). drop k (reverse found)) none)

-- none are left, or the search ends
pub none-left : (ends holds : ℕ → Bool) (n : ℕ) (all found : List ℕ) → n ≡ 0 → all ≡ numbers_since ends holds n ++ reverse found → all ≡ reverse found
none-left ends holds n all found start told = told ∙ ap (λ (k : ℕ). numbers_since ends holds k ++ reverse found) start

pub sought-ended : (ends holds : ℕ → Bool) (m : ℕ) (all found : List ℕ) → 0 < m → ends m ≡ true → all ≡ numbers_since ends holds m ++ reverse found
    → all ≡ reverse found
sought-ended ends holds zero all found some end told = absurd (omega (arith, some))
sought-ended ends holds (suc n) all found some end told = told ∙ ap (λ (b : Bool). since ends holds n b ++ reverse found) end

-- one more is looked at, and found or not
pub sought-found : (ends holds : ℕ → Bool) (m x : ℕ) (all found new : List ℕ) → 0 < m → x ≡ m → new ≡ found ++ x ∷ [] → ends m ≡ false → holds m ≡ true
    → all ≡ numbers_since ends holds m ++ reverse found → all ≡ numbers_since ends holds (m - 1) ++ reverse new
sought-found ends holds zero x all found new some same more goes is told = absurd (omega (arith, some))
sought-found ends holds (suc n) x all found new some same more goes is told =
    let less : suc n - 1 ≡ n = omega arith
    in told
    ∙ ap (λ (b : Bool). since ends holds n b ++ reverse found) goes
    ∙ ap (λ (b : Bool). (numbers_since ends holds n ++ (if b then suc n ∷ [] else [])) ++ reverse found) is
    ∙ append_assoc (numbers_since ends holds n) (suc n ∷ []) (reverse found)
    ∙ ap (λ (k : ℕ). numbers_since ends holds n ++ k ∷ reverse found) (sym same)
    ∙ ap (λ (ns : List ℕ). numbers_since ends holds n ++ ns) (sym (reverse-append found (x ∷ [])))
    ∙ ap (λ (k : ℕ). numbers_since ends holds k ++ reverse (found ++ x ∷ [])) (sym less)
    ∙ ap (λ (ns : List ℕ). numbers_since ends holds (suc n - 1) ++ reverse ns) (sym more)

pub sought-not : (ends holds : ℕ → Bool) (m : ℕ) (all found : List ℕ) → 0 < m → ends m ≡ false → holds m ≡ false
    → all ≡ numbers_since ends holds m ++ reverse found → all ≡ numbers_since ends holds (m - 1) ++ reverse found
sought-not ends holds zero all found some goes is told = absurd (omega (arith, some))
sought-not ends holds (suc n) all found some goes is told =
    let less : suc n - 1 ≡ n = omega arith
    in told
    ∙ ap (λ (b : Bool). since ends holds n b ++ reverse found) goes
    ∙ ap (λ (b : Bool). (numbers_since ends holds n ++ (if b then suc n ∷ [] else [])) ++ reverse found) is
    ∙ ap (λ (ns : List ℕ). ns ++ reverse found) (append-nil (numbers_since ends holds n))
    ∙ ap (λ (k : ℕ). numbers_since ends holds k ++ reverse found) (sym less)

-- the same for the last alone
pub last-there : (holds : ℕ → Bool) (m x : ℕ) → 0 < m → x ≡ m → holds m ≡ true → Some x ≡ last_up_to holds m
last-there holds zero x some same is = absurd (omega (arith, some))
last-there holds (suc n) x some same is =
    ap (λ (k : ℕ). Some k) same
    ∙ sym (ap (λ (b : Bool). if b then Some (suc n) else last_up_to holds n) is)

pub last-not : (holds : ℕ → Bool) (m : ℕ) → 0 < m → holds m ≡ false → last_up_to holds (m - 1) ≡ last_up_to holds m
last-not holds zero some is = absurd (omega (arith, some))
last-not holds (suc n) some is =
    let less : suc n - 1 ≡ n = omega arith
    in ap (λ (k : ℕ). last_up_to holds k) less
    ∙ sym (ap (λ (b : Bool). if b then Some (suc n) else last_up_to holds n) is)

-- which change is sought does not depend on how many stand
sought-same : (sought : Sought) (r : Recorded) (n k : ℕ) → is_sought sought (with_standing r n) k ≡ is_sought sought r k
sought-same (Visits at) r n k = refl
sought-same Jumps r n k = refl
sought-same CodeSettings r n k = refl
sought-same Interruptions r n k = refl
sought-same (SupervisorCalls code) r n k = refl
sought-same (Stores extent) r n k = refl
sought-same (Readers extent) r n k = refl

ends-same : (sought : Sought) (r : Recorded) (n k : ℕ) → ends sought (with_standing r n) k ≡ ends sought r k
ends-same (Visits at) r n k = refl
ends-same Jumps r n k = refl
ends-same CodeSettings r n k = refl
ends-same Interruptions r n k = refl
ends-same (SupervisorCalls code) r n k = refl
ends-same (Stores extent) r n k = refl
ends-same (Readers extent) r n k = refl

-- the last change that stands is the one that is looked at
pub last-sought : (sought : Sought) (r x : Recorded) (m : ℕ) → x ≡ with_standing r m → is_sought sought x x.standing ≡ is_sought sought r m
last-sought sought r x m kept = ap (λ (y : Recorded). is_sought sought y y.standing) kept ∙ sought-same sought r m m

-- the search ends at the change that was taken back
pub ended-there : (sought : Sought) (r x : Recorded) (m : ℕ) → 0 < m → x ≡ with_standing r (m - 1) → ends sought x (x.standing + 1) ≡ ends sought r m
ended-there sought r x m some kept =
    let at : m - 1 + 1 ≡ m = omega (arith, some)
    in ap (λ (y : Recorded). ends sought y (y.standing + 1)) kept
    ∙ ends-same sought r (m - 1) (m - 1 + 1)
    ∙ ap (λ (k : ℕ). ends sought r k) at
