-- Bytes that are made from left to right: what each is made of, and their stores.
use Rattle.std.proofs.Common.{ℕ, zero, suc, ◌+◌, ◌≡◌, ◌<◌, ◌≤◌, ◌∙◌, ◌++◌, Bool, true, false, cond, nat_eq, Some, None, List, [], ◌∷◌, refl, ap, sym}
use Rattle.std.proofs.Common.{arith}
use Rattle.std.proofs.Common.{add-zero}
use Rattle.std.proofs.lemmas.Bool.{eqb-true, eqb-false}
use Rattle.std.proofs.lemmas.List.{append_assoc, append-nil}
use Rattle.s360_store.specs.declared.place.Place.{Place}
use Rattle.s360_store.specs.declared.place.Place.TheVariants.{Byte}
use Rattle.s360_logic.specs.declared.row.ByteCombination.{ByteCombination}
use Rattle.s360_logic.specs.declared.row.ByteCombination.TheVariants.{Second}
use Rattle.s360_logic.specs.{Bytes.byte_at, Bytes.byte_result, Bytes.combination_code, LeftToRight.function_address}
use Rattle.s360_machine.specs.Machine.{Machine}
use Rattle.s360_footprint.specs.LeftToRightRows.{Making, byte_after, combining, made_read, made_stores, result_code_read, sets_code, stored_row}
use Rattle.s360_footprint.specs.LeftToRightRows.{translating}
use Rattle.s360_footprint.specs.Readings.{Reading, bind, done, places_read, value_read}
use Rattle.s360_footprint.proofs.ReadingLemmas.{places-bind}
use Rattle.s360_source.specs.declared.left_to_right.{ByteRow.ByteRow, MadeBytes.MadeBytes}
use Rattle.s360_source.specs.declared.question.Question.{Question}
use Rattle.s360_source.specs.Made.{byte_asked, made_walk, making_by, making_of, other_byte, own_places}
use Rattle.s360_source.specs.Walks.{walked, with_bytes, with_store, with_stores_of}
use Rattle.s360_source.proofs.ReadingPlaces.{mapped}
use Rattle.s360_source.proofs.StoringLemmas.{stored-walked}
use Rattle.s360_source.proofs.WalkLemmas.{stores-both}

-- a byte that is not made yet, and one that is
pub byte-apart : (making : Making) (first n a : ℕ) → (first ≤ a → first + n ≤ a) → byte_after making first n a ≡ value_read (Byte a)
byte-apart making first zero a h = refl
byte-apart making first (suc n) a h = by (nat_eq (first + n) a) refl (byte-apart making first n a) where
  by : (z : Bool) → nat_eq (first + n) a ≡ z → ((first ≤ a → first + n ≤ a) → byte_after making first n a ≡ value_read (Byte a))
      → cond z (making n (byte_after making first n)) (byte_after making first n a) ≡ value_read (Byte a)
  by true e i =
      let f : first + n ≡ a = eqb-true (first + n) a e
      in let l : first ≤ a = omega (arith, f)
      in absurd (omega (arith, f, h l))
  by false e i = i (λ l. omega (arith, h l))

byte-made : (making : Making) (first n k : ℕ) → k < n → byte_after making first n (first + k) ≡ making k (byte_after making first k)
byte-made making first zero k l = absurd (omega (arith, l))
byte-made making first (suc n) k l = by (nat_eq (first + n) (first + k)) refl (byte-made making first n k) where
  by : (z : Bool) → nat_eq (first + n) (first + k) ≡ z → (k < n → byte_after making first n (first + k) ≡ making k (byte_after making first k))
      → cond z (making n (byte_after making first n)) (byte_after making first n (first + k)) ≡ making k (byte_after making first k)
  by true e i = let f : n ≡ k = omega (arith, eqb-true (first + n) (first + k) e) in ap (λ j. making j (byte_after making first j)) f
  by false e i = i (omega (arith, l, eqb-false (first + n) (first + k) e))

-- what a byte is made of: of itself, if it is not moved, and of another one
after-own : (r : Reading ℕ) (a : ℕ) (further : ℕ → Reading ℕ) (m : Machine) → r ≡ value_read (Byte a)
    → places_read (bind r further) m ≡ Byte a ∷ places_read (further (byte_at m.core.storage a)) m
after-own r a further m e = ap (λ x. places_read (bind x further) m) e

made-places : (row : ByteRow) (first second k : ℕ) (m : Machine)
    → places_read (making_by row first second k (byte_after (making_by row first second) first k)) m
    ≡ own_places row (first + k) ++ places_read (byte_after (making_by row first second) first k (other_byte row first second m.core.storage k)) m
made-places (ByteRow.Combined c) first second k m = by c where
  both : (c : ByteCombination) (byte : ℕ → Reading ℕ) → byte (first + k) ≡ value_read (Byte (first + k))
      → places_read (bind (byte (first + k)) (λ a. bind (byte (second + k)) (λ b. done (byte_result c a b)))) m
      ≡ Byte (first + k) ∷ places_read (byte (second + k)) m
  both c byte e =
      after-own (byte (first + k)) (first + k) (λ a. bind (byte (second + k)) (λ b. done (byte_result c a b))) m e
      ∙ ap (λ ps. Byte (first + k) ∷ ps) (mapped (byte (second + k)) _ m)

  by : (c : ByteCombination)
      → places_read (combining c first second k (byte_after (combining c first second) first k)) m
      ≡ own_places (ByteRow.Combined c) (first + k) ++ places_read (byte_after (combining c first second) first k (second + k)) m
  by Second = refl
  by c = both c (byte_after (combining c first second) first k) (byte-apart (combining c first second) first k (first + k) (λ l. omega arith))
made-places ByteRow.Translated first table k m =
    after-own (byte_after (translating table first) first k (first + k)) (first + k)
    (λ b. byte_after (translating table first) first k (function_address table b)) m (byte-apart (translating table first) first k (first + k)
    (λ l. omega arith))

-- one byte back, and the end
pub byte-step : (b : MadeBytes) (m : Machine) (stored at number other : ℕ) (found after target : List Place) → at ≡ b.first + number → number < stored
    → other ≡ other_byte b.row b.first b.second m.core.storage number → after ≡ found ++ own_places b.row at
    → found ++ places_read (byte_after (making_of b) b.first stored at) m ≡ target
    → after ++ places_read (byte_after (making_of b) b.first number other) m ≡ target
byte-step b m stored at number other found after target e l o f h =
    let step : own_places b.row at ++ places_read (byte_after (making_of b) b.first number other) m ≡ places_read (byte_after (making_of b) b.first stored at) m
    = rw (e, o) (sym (made-places b.row b.first b.second number m) ∙ ap (λ r. places_read r m) (sym (byte-made (making_of b) b.first stored number l)))
    in ap (λ xs. xs ++ places_read (byte_after (making_of b) b.first number other) m) f ∙ append_assoc found (own_places b.row at) _
    ∙ ap (λ xs. found ++ xs) step ∙ h

pub byte-end : (b : MadeBytes) (m : Machine) (stored at : ℕ) (found after target : List Place) → (b.first ≤ at → b.first + stored ≤ at)
    → after ≡ found ++ Byte at ∷ [] → found ++ places_read (byte_after (making_of b) b.first stored at) m ≡ target → after ≡ target
byte-end b m stored at found after target l f h =
    f ∙ ap (λ (r : Reading ℕ). found ++ places_read r m) (sym (byte-apart (making_of b) b.first stored at l)) ∙ h

-- all bytes
read-first : (making : Making) (first count a n : ℕ) (m : Machine)
    → places_read (made_read making first count a (suc n)) m
    ≡ places_read (byte_after making first count a) m ++ places_read (made_read making first count (a + 1) n) m
read-first making first count a n m =
    places-bind (byte_after making first count a) _ m ∙ ap (λ ps. places_read (byte_after making first count a) m ++ ps) (mapped
    (made_read making first count (a + 1) n) _ m)

read-last : (making : Making) (first count a n : ℕ) (m : Machine)
    → places_read (made_read making first count a (suc n)) m
    ≡ places_read (made_read making first count a n) m ++ places_read (byte_after making first count (a + n)) m
read-last making first count a zero m = read-first making first count a 0 m ∙ append-nil _ ∙ rw add-zero refl
read-last making first count a (suc n) m =
    let next : a + 1 + n ≡ a + suc n = omega arith
    in read-first making first count a (suc n) m
    ∙ ap (λ ps. places_read (byte_after making first count a) m ++ ps) (read-last making first count (a + 1) n m)
    ∙ sym (append_assoc (places_read (byte_after making first count a) m) (places_read (made_read making first count (a + 1) n) m) _)
    ∙ ap (λ ps. ps ++ places_read (byte_after making first count (a + 1 + n)) m) (sym (read-first making first count a n m))
    ∙ ap (λ k. places_read (made_read making first count a (suc n)) m ++ places_read (byte_after making first count k) m) next

pub read-more : (making : Making) (first f count n : ℕ) (m : Machine) (old now after : List Place) → f ≡ first
    → now ≡ old ++ places_read (made_read making first count first n) m → after ≡ now ++ places_read (byte_after making first count (f + n)) m
    → after ≡ old ++ places_read (made_read making first count first (n + 1)) m
read-more making first f count n m old now after i e h =
    let one : suc n ≡ n + 1 = omega arith
    in h ∙ ap (λ k. now ++ places_read (byte_after making first count (k + n)) m) i ∙ ap (λ ps. ps ++ places_read (byte_after making first count
    (first + n)) m) e
    ∙ append_assoc old (places_read (made_read making first count first n) m) _
    ∙ ap (λ ps. old ++ ps) (sym (read-last making first count first n m)) ∙ ap (λ k. old ++ places_read (made_read making first count first k) m) one

-- their stores, by what is asked
made-last : (q : Question) (making : Making) (first n : ℕ) (m : Machine) (found : List Place)
    → with_stores_of q m (made_stores making first (suc n)) found
    ≡ with_store q (Byte (first + n)) (places_read (making n (byte_after making first n)) m) (with_stores_of q m (made_stores making first n) found)
made-last q making first n m found = stores-both q m (made_stores making first n) (record {
  place = Byte (first + n);
  value = making n
      (byte_after making first n);
} ∷ []) found

any-value : (q : Question) → byte_asked q ≡ None → (a : ℕ) (ps found : List Place) → with_store q (Byte a) ps found ≡ with_store q (Byte a) [] found
any-value Question.Deciders e a ps found = refl
any-value Question.Stored e a ps found = refl
any-value (Question.Sources (Byte k)) e a ps found = absurd (cc)
any-value (Question.Sources p) e a ps found = refl

pub other-stores : (q : Question) (making : Making) (first n : ℕ) (m : Machine) (found : List Place) → byte_asked q ≡ None
    → with_bytes q first n [] found ≡ with_stores_of q m (made_stores making first n) found
other-stores q making first zero m found e = refl
other-stores q making first (suc n) m found e =
    ap (with_store q (Byte (first + n)) []) (other-stores q making first n m found e)
    ∙ sym (made-last q making first n m found ∙ any-value q e (first + n) _ (with_stores_of q m (made_stores making first n) found))

asked : (q : Question) (a : ℕ) → byte_asked q ≡ Some a → q ≡ Question.Sources (Byte a)
asked Question.Deciders a e = absurd (cc)
asked Question.Stored a e = absurd (cc)
asked (Question.Sources (Byte k)) a e = let f : k ≡ a = cc in ap (λ x. Question.Sources (Byte x)) f
asked (Question.Sources p) a e = absurd (cc)

source-apart : (making : Making) (first n a : ℕ) (m : Machine) (found : List Place) → (first ≤ a → first + n ≤ a)
    → found ≡ with_stores_of (Question.Sources (Byte a)) m (made_stores making first n) found
source-apart making first zero a m found h = refl
source-apart making first (suc n) a m found h =
    by (nat_eq (first + n) a) refl (source-apart making first n a m found) ∙ sym (made-last (Question.Sources (Byte a)) making first n m found) where
      by : (z : Bool) → nat_eq (first + n) a ≡ z
          → ((first ≤ a → first + n ≤ a) → found ≡ with_stores_of (Question.Sources (Byte a)) m (made_stores making first n) found)
          → found ≡ cond z (places_read (making n (byte_after making first n)) m) (with_stores_of (Question.Sources (Byte a)) m
          (made_stores making first n) found)
      by true e i =
          let f : first + n ≡ a = eqb-true (first + n) a e
          in let l : first ≤ a = omega (arith, f)
          in absurd (omega (arith, f, h l))
      by false e i = i (λ l. omega (arith, h l))

source-made : (making : Making) (first n k : ℕ) (m : Machine) (found : List Place) → k < n
    → places_read (byte_after making first n (first + k)) m ≡ with_stores_of (Question.Sources (Byte (first + k))) m (made_stores making first n) found
source-made making first zero k m found l = absurd (omega (arith, l))
source-made making first (suc n) k m found l =
    by (nat_eq (first + n) (first + k)) refl (source-made making first n k m found)
    ∙ sym (made-last (Question.Sources (Byte (first + k))) making first n m found) where
      by : (z : Bool) → nat_eq (first + n) (first + k) ≡ z
          → (k < n → places_read (byte_after making first n (first + k)) m
          ≡ with_stores_of (Question.Sources (Byte (first + k))) m (made_stores making first n) found)
          → places_read (cond z (making n (byte_after making first n)) (byte_after making first n (first + k))) m
          ≡ cond z (places_read (making n (byte_after making first n)) m)
          (with_stores_of (Question.Sources (Byte (first + k))) m (made_stores making first n) found)
      by true e i = refl
      by false e i = i (omega (arith, l, eqb-false (first + n) (first + k) e))

pub asked-apart : (q : Question) (making : Making) (first n a : ℕ) (m : Machine) (found : List Place) → byte_asked q ≡ Some a → (first ≤ a → first + n ≤ a)
    → found ≡ with_stores_of q m (made_stores making first n) found
asked-apart q making first n a m found e h = rw (asked q a e) (source-apart making first n a m found h)

pub asked-made : (q : Question) (making : Making) (first n a k : ℕ) (m : Machine) (found : List Place) → byte_asked q ≡ Some a → a ≡ first + k → k < n
    → places_read (byte_after making first n a) m ≡ with_stores_of q m (made_stores making first n) found
asked-made q making first n a k m found e i l = rw (asked q a e, i) (source-made making first n k m found l)

-- all that is stored
pub combine-walked : (q : Question) (c : ByteCombination) (first second count next : ℕ) (m : Machine) (found : List Place)
    → made_walk q (record { row = ByteRow.Combined c; first = first; second = second }) count m found
    ≡ walked q (stored_row (made_stores (combining c first second) first count) (result_code_read c (combining c first second) first count) next) m found
combine-walked q c first second count next m found =
    stored-walked q (made_stores (combining c first second) first count) (result_code_read c (combining c first second) first count) next m found
    (cond (sets_code c) (places_read (made_read (combining c first second) first count first count) m) []) (by (sets_code c)) where
      by : (z : Bool)
          → places_read (cond z (bind (made_read (combining c first second) first count first count) (λ results. done (combination_code c results)))
          (done None)) m ++ []
          ≡ cond z (places_read (made_read (combining c first second) first count first count) m) []
      by true = append-nil _ ∙ mapped (made_read (combining c first second) first count first count) (combination_code c) m
      by false = refl

pub translate-walked : (q : Question) (first table count next : ℕ) (m : Machine) (found : List Place)
    → made_walk q (record { row = ByteRow.Translated; first = first; second = table }) count m found
    ≡ walked q (stored_row (made_stores (translating table first) first count) (done None) next) m found
translate-walked q first table count next m found = stored-walked q (made_stores (translating table first) first count) (done None) next m found [] refl
