-- The places of parts, one after another.
use Rattle.std.proofs.Common.{◌≡◌, ◌<◌, ◌+◌, ◌∙◌, ◌++◌, ℕ, zero, suc, List, [], ◌∷◌, refl, ap, sym, arith, length, take, append_assoc, add-zero, slice_index_or}
use Rattle.std.proofs.lemmas.List.{append-nil, take_more}
use Rattle.s360_store.specs.declared.place.Place.{Place}
use Rattle.s360_store.specs.declared.place.Place.TheVariants.{Byte, Key}
use Rattle.s360_store.specs.Spans.{byte_places}
use Rattle.s360_source.specs.declared.part.Part.{Part}
use Rattle.s360_source.specs.Parts.{keys_from, places_of_part, places_of_parts}

-- one byte more, at the end
byte_places-suc : (a n : ℕ) → byte_places a (suc n) ≡ byte_places a n ++ Byte (a + n) ∷ []
byte_places-suc a zero = rw add-zero refl
byte_places-suc a (suc n) =
    let next : a + 1 + n ≡ a + suc n = omega arith
    in ap (λ (ps : List Place). Byte a ∷ ps) (byte_places-suc (a + 1) n ∙ ap (λ (b : ℕ). byte_places (a + 1) n ++ Byte b ∷ []) next)

pub byte_places-more : (ps qs : List Place) (a n : ℕ) → ps ≡ qs ++ byte_places a n → ps ++ Byte (a + n) ∷ [] ≡ qs ++ byte_places a (n + 1)
byte_places-more ps qs a n e =
    let one : suc n ≡ n + 1 = omega arith
    in ap (λ (xs : List Place). xs ++ Byte (a + n) ∷ []) e ∙ append_assoc qs (byte_places a n) (Byte (a + n) ∷ [])
    ∙ ap (λ (xs : List Place). qs ++ xs) (sym (byte_places-suc a n)) ∙ ap (λ (m : ℕ). qs ++ byte_places a m) one

places-cons : (part : Part) (parts : List Part) → places_of_parts (part ∷ parts) ≡ places_of_part part ++ places_of_parts parts
places-cons part [] = sym (append-nil (places_of_part part))
places-cons part (next ∷ parts) = refl

places-append : (xs ys : List Part) → places_of_parts (xs ++ ys) ≡ places_of_parts xs ++ places_of_parts ys
places-append [] ys = refl
places-append (x ∷ xs) ys =
    places-cons x (xs ++ ys) ∙ ap (λ (ps : List Place). places_of_part x ++ ps) (places-append xs ys)
    ∙ sym (append_assoc (places_of_part x) (places_of_parts xs) (places_of_parts ys))
    ∙ ap (λ (ps : List Place). ps ++ places_of_parts ys) (sym (places-cons x xs))

-- the places of one part more
pub places-more : (parts : List Part) (i : ℕ) (part : Part) (ps qs : List Place) → i < length parts → part ≡ slice_index_or parts i part
    → ps ≡ qs ++ places_of_parts (take i parts) → ps ++ places_of_part part ≡ qs ++ places_of_parts (take (i + 1) parts)
places-more parts i part ps qs l is e =
    let taken : take (i + 1) parts ≡ take i parts ++ part ∷ [] = take_more parts i part l ∙ ap (λ (x : Part). take i parts ++ x ∷ []) (sym is)
    in ap (λ (xs : List Place). xs ++ places_of_part part) e ∙ append_assoc qs (places_of_parts (take i parts)) (places_of_part part)
    ∙ ap (λ (xs : List Place). qs ++ xs) (sym (ap places_of_parts taken ∙ places-append (take i parts) (part ∷ [])))

-- one block more, at the end
keys_from-suc : (block n : ℕ) → keys_from block (suc n) ≡ keys_from block n ++ Key (block + n) ∷ []
keys_from-suc block zero = rw add-zero refl
keys_from-suc block (suc n) =
    let next : block + 1 + n ≡ block + suc n = omega arith
    in ap (λ (ps : List Place). Key block ∷ ps) (keys_from-suc (block + 1) n ∙ ap (λ (b : ℕ). keys_from (block + 1) n ++ Key b ∷ []) next)

pub keys_from-more : (ps qs : List Place) (block n : ℕ) → ps ≡ qs ++ keys_from block n → ps ++ Key (block + n) ∷ [] ≡ qs ++ keys_from block (n + 1)
keys_from-more ps qs block n e =
    let one : suc n ≡ n + 1 = omega arith
    in ap (λ (xs : List Place). xs ++ Key (block + n) ∷ []) e ∙ append_assoc qs (keys_from block n) (Key (block + n) ∷ [])
    ∙ ap (λ (xs : List Place). qs ++ xs) (sym (keys_from-suc block n)) ∙ ap (λ (m : ℕ). qs ++ keys_from block m) one
