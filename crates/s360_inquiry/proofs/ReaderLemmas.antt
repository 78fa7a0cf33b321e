-- The lines of a reader, which are told a part at a time.
use Rattle.std.proofs.Common.{◌≡◌, ◌++◌, ℕ, List, [], ◌∷◌, ap, ◌∙◌, refl, codes}
use Rattle.s360_machine.specs.Machine.{Machine}
use Rattle.s360_journal.specs.Standing.{machine_of}
use Rattle.s360_journal.specs.Recorded.{Recorded, session_of, with_standing}
use Rattle.s360_inquiry.specs.declared.extent.Extent.{Extent}
use Rattle.s360_inquiry.specs.declared.search.Sought.TheVariants.{Readers}
use Rattle.s360_inquiry.specs.Changes.{just_before, last_of, words_of_change}
use Rattle.s360_inquiry.specs.Readers.{made_lines, made_next, reader_text, readers_text, told_readers}
use Rattle.s360_inquiry.specs.Searches.{numbers_since}
use Rattle.s360_inquiry.specs.Sought.{ends, is_sought}
use Rattle.s360_inquiry.specs.Stores.{just_after}
use Rattle.s360_language.proofs.ShownLemmas.{pushed}

pub reader-told : (r x y : Recorded) (m : Machine) (extent : Extent) (number : ℕ) (made : List Extent) (old event first second third : List ℕ)
    → x ≡ just_before r number → y ≡ just_after r number → m ≡ machine_of (session_of y) → made ≡ made_next extent x
    → event ≡ words_of_change r number → first ≡ old ++ event → second ≡ first ++ codes "\n" → third ≡ second ++ made_lines m made
    → third ≡ old ++ reader_text r extent number
reader-told r x y m extent number made old event first second third before after there makes is begun ended told =
    let machine : m ≡ machine_of (session_of (just_after r number)) = there ∙ ap (λ (z : Recorded). machine_of (session_of z)) after
    in let all : made ≡ made_next extent (just_before r number) = makes ∙ ap (λ (z : Recorded). made_next extent z) before
    in pushed old second third (event ++ codes "\n") (made_lines m made) (pushed old first second event (codes "\n") begun ended) told
    ∙ ap (λ (t : List ℕ). old ++ ((t ++ codes "\n") ++ made_lines m made)) is
    ∙ ap (λ (n : Machine). old ++ ((words_of_change r number ++ codes "\n") ++ made_lines n made)) machine
    ∙ ap (λ (es : List Extent). old ++ ((words_of_change r number ++ codes "\n") ++ made_lines (machine_of (session_of (just_after r number))) es)) all

-- what is told of readers does not depend on how many changes stand
told-same : (r : Recorded) (k : ℕ) (extent : Extent) (numbers : List ℕ) → told_readers (with_standing r k) extent numbers ≡ told_readers r extent numbers
told-same r k extent [] = refl
told-same r k extent (number ∷ numbers) = refl

pub readers-told : (r x : Recorded) (extent : Extent) (most : ℕ) (text numbers listed : List ℕ) → x ≡ with_standing r x.standing → listed ≡ numbers
    → numbers ≡ last_of most (numbers_since (ends (Readers extent) r) (is_sought (Readers extent) r) r.standing) → text ≡ told_readers x extent listed
    → text ≡ readers_text r extent most
readers-told r x extent most text numbers listed left same found told =
    told
    ∙ ap (λ (y : Recorded). told_readers y extent listed) left
    ∙ told-same r x.standing extent listed
    ∙ ap (λ (ns : List ℕ). told_readers r extent ns) (same ∙ found)
