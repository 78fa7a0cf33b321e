-- What is made of operands that share no byte: nothing that is stored is fetched later.
use Rattle.std.proofs.Common.{◌≡◌, ◌≢◌, ◌<◌, ◌≤◌, ◌+◌, ◌∙◌, ℕ, zero, suc, length, arith, rules, refl, ap, nat_eq, nat_lt, true, inl, inr, get_or-set_other, get_or-set_same, length-set}
use Rattle.std.proofs.Math.Path.{fun_ext}
use Rattle.std.proofs.lemmas.Bool.{cases_Bool, eqb-true, eqb-false, ltb-true}
use Rattle.s360_model.specs.Storage.{Storage}
use Rattle.s360_logic.specs.declared.field.Field.{Field}
use Rattle.s360_logic.specs.Bytes.{byte_at, with_byte}
use Rattle.s360_logic.specs.RightToLeft.{DigitsOfApartOperands, ShareNoByte, DigitMove, address_from_right, byte_from_right, first_user, made_byte, source_byte, result_byte, storage_after, storage_before}
use Rattle.s360_logic.proofs.RightToLeftLemmas.{storage_before-first}

byte_at-other : (s : Storage) (a b byte : ℕ) → b ≢ a → byte_at (with_byte a byte s) b ≡ byte_at s b
byte_at-other s a b byte other = get_or-set_other s.bytes a b byte 0 other

byte_at-same : (s : Storage) (a byte : ℕ) → a < length s.bytes → byte_at (with_byte a byte s) a ≡ byte
byte_at-same s a byte inside = get_or-set_same s.bytes a byte 0 inside

-- a byte of one operand is none of the other
apart : (first second : Field) (i j : ℕ) → ShareNoByte first second → i < first.count → j < second.count → address_from_right second j ≢ address_from_right first i
apart first second i j (inl before) h k = λ e. omega arith
apart first second i j (inr behind) h k = λ e. omega arith

byte_from_right-kept : (first second : Field) (i byte : ℕ) (s : Storage) → ShareNoByte first second → i < first.count
    → (j : ℕ) → byte_from_right second (with_byte (address_from_right first i) byte s) j ≡ byte_from_right second s j
byte_from_right-kept first second i byte s a h j =
    elim (cases_Bool (nat_lt j second.count)) [
      | inl inside ↦ rw inside (byte_at-other s (address_from_right first i) (address_from_right second j) byte (apart first second i j a h (ltb-true _ _ inside)))
      | inr past ↦ rw past refl
    ]

-- each property of storage that a byte of the result leaves holds before each byte
before-all : (d : DigitMove) (s : Storage) (p : Storage → Type 0) → p s → ((before : ℕ → Storage) (i : ℕ) → i < d.first.count → p (before i) → p (storage_after d before i))
    → (n i : ℕ) → n ≤ d.first.count → p (storage_before d s n i)
before-all d s p start step zero i h = start
before-all d s p start step (suc n) i h =
    elim (cases_Bool (nat_lt n i)) [
      | inl later ↦ rw later (step (storage_before d s n) n (omega (arith, h)) (before-all d s p start step n n (omega (arith, h))))
      | inr made ↦ rw made (before-all d s p start step n i (omega (arith, h)))
    ]

source-kept : (d : DigitMove) (s : Storage) → ShareNoByte d.first d.second → (n i j : ℕ) → n ≤ d.first.count
    → byte_from_right d.second (storage_before d s n i) j ≡ byte_from_right d.second s j
source-kept d s a n i j h =
    before-all d s (λ t. byte_from_right d.second t j ≡ byte_from_right d.second s j) refl
    (λ before k l e. byte_from_right-kept d.first d.second k (made_byte d before k) (before k) a l j ∙ e) n i h

-- so each byte is made of the bytes as they stood before
made-kept : (d : DigitMove) (s : Storage) → ShareNoByte d.first d.second → (n i : ℕ) → n ≤ d.first.count → made_byte d (storage_before d s n) i ≡ made_byte d (λ k. s) i
made-kept d s a n i h =
    let same : source_byte d (storage_before d s n) ≡ source_byte d (λ k. s) = fun_ext (λ j. source-kept d s a n (first_user d.row j) j h)
    in ap (λ (t : Storage). result_byte d.row d.zone (byte_from_right d.first t 0) (source_byte d (storage_before d s n)) i) (storage_before-first d s n)
    ∙ ap (λ (f : ℕ → ℕ). result_byte d.row d.zone (byte_from_right d.first s 0) f i) same

nat_lt-yes : (m n : ℕ) → m < n → nat_lt m n ≡ true
nat_lt-yes m n h = search rules

-- and stays
stored-made : (d : DigitMove) (s : Storage) → ShareNoByte d.first d.second → d.first.address + d.first.count ≤ length s.bytes
    → (n k : ℕ) → k < n → n ≤ d.first.count → byte_at (storage_before d s n n) (address_from_right d.first k) ≡ made_byte d (λ j. s) k
stored-made d s a inside zero k l h = absurd (omega (arith, l))
stored-made d s a inside (suc n) k l h =
    let before : ℕ → Storage = storage_before d s n
    in let size : length (before n).bytes ≡ length s.bytes
    = before-all d s (λ t. length t.bytes ≡ length s.bytes) refl (λ b i m e. length-set (b i).bytes (address_from_right d.first i) (made_byte d b i) ∙ e) n n (omega (arith, h))
    in rw (nat_lt-yes n (suc n) (omega arith)) (
    elim (cases_Bool (nat_eq k n)) [
      | inl same ↦
          let e : k ≡ n = eqb-true _ _ same
          in rw e (byte_at-same (before n) (address_from_right d.first n) (made_byte d before n) (omega (arith, size, inside, h)) ∙ made-kept d s a n n (omega (arith, h)))
      | inr other ↦
          let ne : k ≢ n = eqb-false _ _ other
          in byte_at-other (before n) (address_from_right d.first n) (address_from_right d.first k) (made_byte d before n) (λ e. omega (arith, e, ne, l, h))
          ∙ stored-made d s a inside n k (omega (arith, l, ne)) (omega (arith, h))
    ]
    )

pub digits_of_apart_operands : DigitsOfApartOperands
digits_of_apart_operands d s a inside =
    let n : ℕ = d.first.count
    in record {
      made = λ i h. stored-made d s a inside n i h (omega arith);
      others = λ b h. before-all d s (λ t. byte_at t b ≡ byte_at s b) refl
          (λ before i l e. byte_at-other (before i) (address_from_right d.first i) b (made_byte d before i) (λ f. omega (arith, f, h, l)) ∙ e) n n (omega arith);
      keys = before-all d s (λ t. t.keys ≡ s.keys) refl (λ before i l e. e) n n (omega arith);
      fetch_protection = before-all d s (λ t. t.fetch_protection ≡ s.fetch_protection) refl (λ before i l e. e) n n (omega arith);
      size = before-all d s (λ t. length t.bytes ≡ length s.bytes) refl (λ before i l e. length-set (before i).bytes (address_from_right d.first i) (made_byte d before i) ∙ e) n n (omega arith);
    }
