-- The calls that have not returned, of which the innermost is the last that is kept.
use Rattle.std.proofs.Common.{◌≡◌, ◌<◌, ◌≤◌, ◌+◌, ◌-◌, ◌++◌, ℕ, suc, Bool, true, false, Some, get_or, List, [], ◌∷◌, ap, sym, ◌∙◌, refl, arith, subst, length, map, reverse, take, take-append-drop, drop, codes, nat_eq, if◌then◌else◌}
use Rattle.std.proofs.lemmas.List.{map-append, reverse-append, take_more}
use Rattle.s360_model.specs.Text.{hex_text}
use Rattle.s360_store.specs.declared.place.Place.{Place}
use Rattle.s360_journal.specs.Recorded.{Recorded, with_standing}
use Rattle.s360_language.specs.Names.{place_name}
use Rattle.s360_language.proofs.ShownLemmas.{pushed}
use Rattle.s360_inquiry.specs.declared.call.Call.{Call}
use Rattle.s360_inquiry.specs.declared.calling.OpenCall.{OpenCall}
use Rattle.s360_inquiry.specs.declared.telling.Telling.{Telling}
use Rattle.s360_inquiry.specs.Calls.{calls_after_change, line_of_call, link_place, open_calls, outside_of, overwritten_words, returning_words, told_open_calls, value_words_of}
use Rattle.s360_inquiry.specs.Tellings.{IsTold, told_lines}
use Rattle.s360_inquiry.proofs.TellingLemmas.{told-full}

-- the last of the first calls is the first from the other end
last-first : (cs : List Call) (m : ℕ) (d : Call) → 0 < m → m ≤ length cs → reverse (take m cs) ≡ get_or cs (m - 1) d ∷ reverse (take (m - 1) cs)
last-first cs m d some within =
    let one : m - 1 + 1 ≡ m = omega (arith, some)
    in ap (λ (k : ℕ). reverse (take k cs)) (sym one)
    ∙ ap (λ (xs : List Call). reverse xs) (take_more cs (m - 1) d (omega (arith, some, within)))
    ∙ reverse-append (take (m - 1) cs) (get_or cs (m - 1) d ∷ [])

-- it goes on at the address, or it does not
pub outside-there : (at : ℕ) (cs : List Call) (m : ℕ) (d : Call) → 0 < m → m ≤ length cs → nat_eq (get_or cs (m - 1) d).next at ≡ true
    → outside_of at (reverse (take m cs)) ≡ Some (reverse (take (m - 1) cs))
outside-there at cs m d some within is =
    ap (λ (xs : List Call). outside_of at xs) (last-first cs m d some within)
    ∙ ap (λ (b : Bool). if b then Some (reverse (take (m - 1) cs)) else outside_of at (reverse (take (m - 1) cs))) is

pub outside-not : (at : ℕ) (cs : List Call) (m : ℕ) (d : Call) → 0 < m → m ≤ length cs → nat_eq (get_or cs (m - 1) d).next at ≡ false
    → outside_of at (reverse (take m cs)) ≡ outside_of at (reverse (take (m - 1) cs))
outside-not at cs m d some within is =
    ap (λ (xs : List Call). outside_of at xs) (last-first cs m d some within)
    ∙ ap (λ (b : Bool). if b then Some (reverse (take (m - 1) cs)) else outside_of at (reverse (take (m - 1) cs))) is

-- a change more
pub open-more : (r : Recorded) (n : ℕ) (now new : List Call) → now ≡ open_calls r n → new ≡ calls_after_change r (n + 1) now → new ≡ open_calls r (n + 1)
open-more r n now new told more =
    let one : n + 1 ≡ suc n = omega arith
    in more
    ∙ ap (λ (cs : List Call). calls_after_change r (n + 1) cs) told
    ∙ ap (λ (k : ℕ). calls_after_change r k (open_calls r n)) one
    ∙ ap (λ (k : ℕ). open_calls r k) (sym one)

-- ---- how they are told

-- where a call is to go on, told a part at a time
pub returning-told : (c : Call) (now next : ℕ) (place : Place) (old first second third fourth fifth : List ℕ) → next ≡ c.next → place ≡ link_place c.link
    → first ≡ old ++ (codes " returns to " ++ hex_text 6 next) → second ≡ first ++ codes " by " → third ≡ second ++ place_name place
    → fourth ≡ third ++ value_words_of c.link c.value → fifth ≡ fourth ++ overwritten_words c.link c.value now → fifth ≡ old ++ returning_words c now
returning-told c now next place old first second third fourth fifth is there begun by named value over =
    let value_words : List ℕ = value_words_of c.link c.value
    in let over_words : List ℕ = overwritten_words c.link c.value now
    in pushed old fourth fifth _ over_words
    (pushed old third fourth _ value_words (pushed old second third _ (place_name place) (pushed old first second _ (codes " by ") begun by) named) value) over
    ∙ ap (λ (n : ℕ). old ++ (((((codes " returns to " ++ hex_text 6 n) ++ codes " by ") ++ place_name place) ++ value_words) ++ over_words)) is
    ∙ ap (λ (p : Place). old ++ (((((codes " returns to " ++ hex_text 6 c.next) ++ codes " by ") ++ place_name p) ++ value_words) ++ over_words)) there

-- the line of a call more
pub call-told : (r now : Recorded) (cs : List OpenCall) (i : ℕ) (d : OpenCall) (t u : Telling) → i < length cs → d ≡ get_or cs i d
    → now ≡ with_standing r now.standing → IsTold (map (line_of_call r) (take i cs)) t
    → ((lines : List (List ℕ)) → IsTold lines t → IsTold (lines ++ line_of_call now d ∷ []) u) → IsTold (map (line_of_call r) (take (i + 1) cs)) u
call-told r now cs i d t u inside is kept told more =
    let begun : List (List ℕ) = map (line_of_call r) (take i cs)
    in let same : line_of_call now d ≡ line_of_call r (get_or cs i d) = ap (λ (x : Recorded). line_of_call x d) kept ∙ ap (λ (x : OpenCall). line_of_call r x) is
    in let all : begun ++ line_of_call now d ∷ [] ≡ map (line_of_call r) (take (i + 1) cs)
    = ap (λ (l : List ℕ). begun ++ l ∷ []) same
    ∙ sym (map-append (line_of_call r) (take i cs) (get_or cs i d ∷ []))
    ∙ sym (ap (λ (xs : List OpenCall). map (line_of_call r) xs) (take_more cs i d inside))
    in subst (λ (ls : List (List ℕ)). IsTold ls u) all (more begun told)

-- once no further line is told, those of all calls are
pub calls-full : (r : Recorded) (cs : List OpenCall) (i : ℕ) (t : Telling) → 1000 < t.lines → IsTold (map (line_of_call r) (take i cs)) t
    → IsTold (map (line_of_call r) cs) t
calls-full r cs i t full told =
    subst (λ (ls : List (List ℕ)). IsTold ls t)
    (sym (map-append (line_of_call r) (take i cs) (drop i cs)) ∙ ap (λ (xs : List OpenCall). map (line_of_call r) xs) (take-append-drop i cs))
    (told-full (map (line_of_call r) (take i cs)) (map (line_of_call r) (drop i cs)) t full told)

-- there are some
pub some-told : (r : Recorded) (cs : List OpenCall) → false ≡ nat_eq (length cs) 0 → told_lines (map (line_of_call r) cs) ≡ told_open_calls r cs
some-told r [] some = absurd (cc)
some-told r (c ∷ cs) some = refl
