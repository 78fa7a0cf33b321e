-- Bytes of digits that are made from right to left: what each is made of, and their stores.
use Rattle.std.proofs.Common.{ℕ, zero, suc, ◌+◌, ◌-◌, ◌*◌, ◌/◌, ◌%◌, ◌≡◌, ◌<◌, ◌≤◌, ◌∙◌, ◌++◌, Bool, true, false, cond, nat_eq, List, [], ◌∷◌, refl, ap}
use Rattle.std.proofs.Common.{sym, arith, ltb}
use Rattle.std.proofs.lemmas.Bool.{eq-eqb, eqb-true, lt-ltb, ltb-false, ltb-true}
use Rattle.s360_store.specs.declared.place.Place.{Place}
use Rattle.s360_store.specs.declared.place.Place.TheVariants.{Psw, Byte}
use Rattle.s360_logic.specs.declared.{field.Field.Field, row.DigitRow.DigitRow}
use Rattle.s360_logic.specs.RightToLeft.{address_from_right, exchanged, first_user}
use Rattle.s360_machine.specs.Machine.{Machine}
use Rattle.s360_footprint.specs.DigitRows.{DigitOperands, byte_before, digit_read, digit_stores, exchanged_read, from_right_read, made_digit, pair_of_digits}
use Rattle.s360_footprint.specs.DigitRows.{source_read, upper_read, zoned_read}
use Rattle.s360_footprint.specs.Readings.{Reading, places_read}
use Rattle.s360_footprint.proofs.ReadingLemmas.{places-bind}
use Rattle.s360_source.specs.declared.question.Question.{Question}
use Rattle.s360_source.specs.declared.digits.Digits.{Digits}
use Rattle.s360_source.specs.Fields.{digit_places, digit_places_by, field_of, operands_of}
use Rattle.s360_source.specs.Walks.{with_store, with_stores_of}
use Rattle.s360_source.proofs.ReadingPlaces.{mapped}
use Rattle.s360_source.proofs.WalkLemmas.{stores-both}

-- a byte after so many bytes of the result were stored
before-next : (d : DigitOperands) (n a : ℕ)
    → byte_before d (suc n) (suc n) a ≡ cond (nat_eq (address_from_right d.first n) a) (made_digit d (byte_before d n) n) (byte_before d n n a)
before-next d n a = rw (lt-ltb n (suc n) (omega arith)) refl

pub stored-here : (d : DigitOperands) (stored last a : ℕ) (m : Machine) → stored ≡ suc last → address_from_right d.first last ≡ a
    → places_read (made_digit d (byte_before d last) last) m ≡ places_read (byte_before d stored stored a) m
stored-here d stored last a m e h =
    rw e (sym (ap (λ r. places_read r m)
    (before-next d last a ∙ ap (λ z. cond z (made_digit d (byte_before d last) last) (byte_before d last last a)) (eq-eqb
    (address_from_right d.first last) a h))))

-- before a byte of the result is made, where as many or more bytes are made in all, or fewer
pub before-early : (d : DigitOperands) (n k a : ℕ) → k ≤ n → byte_before d n k a ≡ byte_before d k k a
before-early d zero k a l = let none : k ≡ 0 = omega (arith, l) in rw none refl
before-early d (suc n) k a l = by (ltb n k) refl (before-early d n k a) where
  by : (z : Bool) → ltb n k ≡ z → (k ≤ n → byte_before d n k a ≡ byte_before d k k a)
      → cond z (cond (nat_eq (address_from_right d.first n) a) (made_digit d (byte_before d n) n) (byte_before d n n a)) (byte_before d n k a)
      ≡ byte_before d k k a
  by true e i =
      let all : suc n ≡ k = omega (arith, l, ltb-true n k e)
      in sym (before-next d n a) ∙ ap (λ x. byte_before d x x a) all
  by false e i = i (ltb-false n k e)

pub before-late : (d : DigitOperands) (n k a : ℕ) → n ≤ k → byte_before d n k a ≡ byte_before d n n a
before-late d zero k a l = refl
before-late d (suc n) k a l = rw (lt-ltb n k (omega (arith, l)), lt-ltb n (suc n) (omega arith)) refl

-- a byte of the second operand as it is taken
source-some : (d : DigitOperands) (i j : ℕ) (m : Machine) → j < d.second.count
    → places_read (source_read d (byte_before d i) j) m ≡ places_read (byte_before d i (first_user d.row j) (address_from_right d.second j)) m
source-some d i j m l = rw (lt-ltb j d.second.count l) refl

pub source-early : (d : DigitOperands) (i j user a : ℕ) (m : Machine) → j < d.second.count → user ≡ first_user d.row j → a ≡ address_from_right d.second j
    → user ≤ i
    → places_read (byte_before d user user a) m ≡ places_read (source_read d (byte_before d i) j) m
source-early d i j user a m l e f h =
    rw (e, f) (ap (λ r. places_read r m) (sym (before-early d i (first_user d.row j) (address_from_right d.second j) (rw e at h))) ∙ sym
    (source-some d i j m l))

pub source-late : (d : DigitOperands) (i j user a : ℕ) (m : Machine) → j < d.second.count → user ≡ first_user d.row j → a ≡ address_from_right d.second j
    → i ≤ user
    → places_read (byte_before d i i a) m ≡ places_read (source_read d (byte_before d i) j) m
source-late d i j user a m l e f h =
    rw f (ap (λ r. places_read r m) (sym (before-late d i (first_user d.row j) (address_from_right d.second j) (rw e at h))) ∙ sym (source-some d i j m l))

-- a byte of the result
pair-places : (high low : Reading ℕ) (m : Machine) → places_read (pair_of_digits high low) m ≡ places_read high m ++ places_read low m
pair-places high low m = places-bind high _ m ∙ ap (λ ps. places_read high m ++ ps) (mapped low _ m)

read-places : (row : DigitRow) (rightmost : Reading ℕ) (source : ℕ → Reading ℕ) (i : ℕ) (m : Machine) (right : List Place)
    → (i ≡ 0 → places_read rightmost m ≡ right)
    → places_read (digit_read row rightmost source i) m ≡ digit_places_by row i right (λ j. places_read (source j) m)
read-places DigitRow.MoveWithOffset rightmost source i m right h = by (nat_eq i 0) refl where
  by : (z : Bool) → nat_eq i 0 ≡ z
      → places_read (pair_of_digits (source i) (cond z rightmost (upper_read (source (i - 1))))) m
      ≡ places_read (source i) m ++ cond z right (places_read (source (i - 1)) m)
  by true e = pair-places (source i) rightmost m ∙ ap (λ ps. places_read (source i) m ++ ps) (h (eqb-true i 0 e))
  by false e =
      pair-places (source i) (upper_read (source (i - 1))) m
      ∙ ap (λ ps. places_read (source i) m ++ ps) (mapped (source (i - 1)) (λ b. b / 16) m)
read-places DigitRow.Pack rightmost source i m right h = by (nat_eq i 0) where
  by : (z : Bool)
      → places_read (cond z (exchanged_read (source 0)) (pair_of_digits (source (2 * i)) (source (2 * i - 1)))) m
      ≡ cond z (places_read (source 0) m) (places_read (source (2 * i)) m ++ places_read (source (2 * i - 1)) m)
  by true = mapped (source 0) exchanged m
  by false = pair-places (source (2 * i)) (source (2 * i - 1)) m
read-places DigitRow.Unpack rightmost source i m right h = by (nat_eq i 0) where
  digit : (w : Bool)
      → places_read (cond w (source ((i + 1) / 2)) (upper_read (source (i / 2)))) m ≡ places_read (source (cond w ((i + 1) / 2) (i / 2))) m
  digit true = refl
  digit false = mapped (source (i / 2)) (λ b. b / 16) m

  by : (z : Bool)
      → places_read (cond z (exchanged_read (source 0)) (zoned_read (cond (nat_eq (i % 2) 1) (source ((i + 1) / 2)) (upper_read (source (i / 2)))))) m
      ≡ cond z (places_read (source 0) m) (Psw ∷ places_read (source (cond (nat_eq (i % 2) 1) ((i + 1) / 2) (i / 2))) m)
  by true = mapped (source 0) exchanged m
  by false =
      ap (λ ps. Psw ∷ ps) (mapped (cond (nat_eq (i % 2) 1) (source ((i + 1) / 2)) (upper_read (source (i / 2)))) _ m ∙ digit (nat_eq (i % 2) 1))

pub made-is : (d : Digits) (i : ℕ) (m : Machine) → 0 < d.first.count
    → digit_places d i m ≡ places_read (made_digit (operands_of d) (byte_before (operands_of d) i) i) m
made-is d i m l =
    let field : Field = field_of d.first
    in sym (read-places d.row (from_right_read field (byte_before (operands_of d) i 0) 0) (source_read (operands_of d) (byte_before (operands_of d) i)) i m
    (Byte (address_from_right field 0) ∷ []) (λ e. rw (e, lt-ltb 0 d.first.count l) refl))

-- the stores of one byte more
pub digits-more : (q : Question) (d : Digits) (n : ℕ) (m : Machine) (found now after : List Place) → 0 < d.first.count
    → now ≡ with_stores_of q m (digit_stores (operands_of d) n) found
    → after ≡ with_store q (Byte (address_from_right (field_of d.first) n)) (digit_places d n m) now
    → after ≡ with_stores_of q m (digit_stores (operands_of d) (n + 1)) found
digits-more q d n m found now after l e h =
    let one : suc n ≡ n + 1 = omega arith
    in h ∙ ap (λ ps. with_store q (Byte (address_from_right (field_of d.first) n)) ps now) (made-is d n m l)
    ∙ ap (with_store q (Byte (address_from_right (field_of d.first) n)) (places_read (made_digit (operands_of d) (byte_before (operands_of d) n) n) m)) e
    ∙ sym (stores-both q m (digit_stores (operands_of d) n)
    (record { place = Byte (address_from_right (field_of d.first) n); value = made_digit (operands_of d) (byte_before (operands_of d) n) n } ∷ []) found)
    ∙ ap (λ k. with_stores_of q m (digit_stores (operands_of d) k) found) one
