-- Texts with one part more at the end.
use Rattle.std.proofs.Common.{◌≡◌, ◌<◌, ◌+◌, ◌++◌, ℕ, List, [], ◌∷◌, ap, sym, ◌∙◌, refl, take, get_or, length, map, min, nat_eq, false, append_assoc, codes}
use Rattle.std.proofs.lemmas.List.{append-nil, take_min, take_more}
use Rattle.std.proofs.lemmas.List.Folds.{flat_map-map}
use Rattle.std.proofs.lemmas.List.FromFn.{map-range_with_len_more}
use Rattle.std.proofs.lemmas.Grind.{flat_map-append}
use Rattle.std.specs.List.{flat_map, range_with_len}
use Rattle.s360_model.specs.Text.{hex_text, hex_bytes}
use Rattle.s360_language.specs.ShownItems.{block_begin}

-- an item of a list is told more, after a text
pub told-more : {A : Type 0} (told : A → List ℕ) (xs : List A) (i : ℕ) (d : A) (old text new : List ℕ) → i < length xs
    → text ≡ old ++ flat_map told (take i xs) → new ≡ text ++ told (get_or xs i d) → new ≡ old ++ flat_map told (take (i + 1) xs)
told-more told xs i d old text new inside h k =
    k
    ∙ ap (λ (t : List ℕ). t ++ told (get_or xs i d)) h
    ∙ append_assoc old (flat_map told (take i xs)) (told (get_or xs i d))
    ∙ ap (λ (t : List ℕ). old ++ t)
    (sym (
    ap (λ ys. flat_map told ys) (take_more xs i d inside)
    ∙ (flat_map-append told (take i xs) (get_or xs i d ∷ []) ∙ ap (λ t. flat_map told (take i xs) ++ t) (append-nil (told (get_or xs i d))))
    ))

hex_bytes-told : (bytes : List ℕ) → hex_bytes bytes ≡ flat_map (λ byte. hex_text 2 byte) bytes
hex_bytes-told [] = refl
hex_bytes-told (b ∷ bytes) = ap (λ t. hex_text 2 b ++ t) (hex_bytes-told bytes)

-- the digits of one byte more
pub digits-pushed : (bytes old text new : List ℕ) (i byte : ℕ) → text ≡ old ++ hex_bytes (take i bytes) → i < length bytes → byte ≡ get_or bytes i 0
    → new ≡ text ++ hex_text 2 byte → new ≡ old ++ hex_bytes (take (i + 1) bytes)
digits-pushed bytes old text new i byte h inside e k =
    told-more (λ b. hex_text 2 b) bytes i 0 old text new inside (h ∙ ap (λ t. old ++ t) (hex_bytes-told (take i bytes))) (k ∙ ap (λ b. text ++ hex_text 2 b) e)
    ∙ ap (λ t. old ++ t) (sym (hex_bytes-told (take (i + 1) bytes)))

-- the first bytes of a block that has any
pub begin-pushed : (old text new bytes : List ℕ) (count : ℕ) → false ≡ nat_eq (length bytes) 0 → count ≡ min 32 (length bytes) → text ≡ old ++ codes " "
    → new ≡ text ++ hex_bytes (take count bytes) → new ≡ old ++ block_begin bytes
begin-pushed old text new [] count some e h k = cc
begin-pushed old text new (byte ∷ bytes) count some e h k =
    k
    ∙ ap (λ (t : List ℕ). t ++ hex_bytes (take count (byte ∷ bytes))) h
    ∙ ap (λ (n : ℕ). (old ++ codes " ") ++ hex_bytes (take n (byte ∷ bytes))) e
    ∙ ap (λ (shown : List ℕ). (old ++ codes " ") ++ hex_bytes shown) (take_min 32 (byte ∷ bytes))
    ∙ append_assoc old (codes " ") (hex_bytes (take 32 (byte ∷ bytes)))

-- numbers that follow one another are told one more
pub told-next : (told : ℕ → List ℕ) (first count next : ℕ) → first + count ≡ next
    → flat_map told (range_with_len first (count + 1)) ≡ flat_map told (range_with_len first count) ++ told next
told-next told first count next at =
    let joined : (ns : List ℕ) → flat_map (λ t. t) (map told ns) ≡ flat_map told ns = λ ns. flat_map-map (λ t. t) told ns
    in sym (joined (range_with_len first (count + 1)))
    ∙ (ap (λ ts. flat_map (λ t. t) ts) (map-range_with_len_more told first count next at)
    ∙ (flat_map-append (λ t. t) (map told (range_with_len first count)) (told next ∷ [])
    ∙ (ap (λ t. t ++ flat_map (λ t. t) (told next ∷ [])) (joined (range_with_len first count))
    ∙ ap (λ t. flat_map told (range_with_len first count) ++ t) (append-nil (told next)))))

-- a text that is added to a part at a time
pub pushed : (old first second s t : List ℕ) → first ≡ old ++ s → second ≡ first ++ t → second ≡ old ++ (s ++ t)
pushed old first second s t begun more = more ∙ ap (λ (x : List ℕ). x ++ t) begun ∙ append_assoc old s t
