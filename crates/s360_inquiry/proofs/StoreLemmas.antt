-- The lines of a store, which are told a part at a time.
use Rattle.std.proofs.Common.{◌≡◌, ◌++◌, ℕ, List, [], ◌∷◌, Option, Some, ap, ◌∙◌, sym, refl, codes}
use Rattle.s360_journal.specs.Recorded.{Recorded, with_standing}
use Rattle.s360_inquiry.specs.declared.extent.Extent.{Extent}
use Rattle.s360_inquiry.specs.declared.search.Sought.TheVariants.{Stores}
use Rattle.s360_inquiry.specs.Changes.{just_before, last_of, words_of_change}
use Rattle.s360_inquiry.specs.Searches.{numbers_up_to}
use Rattle.s360_inquiry.specs.Sought.{is_sought}
use Rattle.s360_inquiry.specs.Stores.{span_line, span_line_if, span_stored, store_text, stores_text, told_stores}
use Rattle.s360_language.proofs.ShownLemmas.{pushed}

pub store-told : (r x : Recorded) (extent : Extent) (number : ℕ) (span : Extent) (old event first second third : List ℕ) → x ≡ just_before r number
    → event ≡ words_of_change r number → first ≡ old ++ event → second ≡ first ++ codes "\n" → span_stored extent x ≡ Some span
    → third ≡ second ++ span_line x number span → third ≡ old ++ store_text r extent number
store-told r x extent number span old event first second third before is begun ended there told =
    let stored : span_stored extent (just_before r number) ≡ Some span = sym (ap (λ (y : Recorded). span_stored extent y) before) ∙ there
    in let line : span_line x number span ≡ span_line_if r number (span_stored extent (just_before r number))
    = ap (λ (y : Recorded). span_line y number span) before ∙ ap (λ (o : Option Extent). span_line_if r number o) (sym stored)
    in pushed old second third (event ++ codes "\n") (span_line x number span) (pushed old first second event (codes "\n") begun ended) told
    ∙ ap (λ (t : List ℕ). old ++ ((t ++ codes "\n") ++ span_line x number span)) is
    ∙ ap (λ (t : List ℕ). old ++ ((words_of_change r number ++ codes "\n") ++ t)) line

-- what is told of stores does not depend on how many changes stand
told-same : (r : Recorded) (k : ℕ) (extent : Extent) (numbers : List ℕ) → told_stores (with_standing r k) extent numbers ≡ told_stores r extent numbers
told-same r k extent [] = refl
told-same r k extent (number ∷ numbers) = refl

pub stores-told : (r x : Recorded) (extent : Extent) (most : ℕ) (text numbers listed : List ℕ) → x ≡ with_standing r x.standing → listed ≡ numbers
    → numbers ≡ last_of most (numbers_up_to (is_sought (Stores extent) r) r.standing) → text ≡ told_stores x extent listed → text ≡ stores_text r extent most
stores-told r x extent most text numbers listed left same found told =
    told
    ∙ ap (λ (y : Recorded). told_stores y extent listed) left
    ∙ told-same r x.standing extent listed
    ∙ ap (λ (ns : List ℕ). told_stores r extent ns) (same ∙ found)
