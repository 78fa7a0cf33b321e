-- The bytes of a result that are made with one byte held are those of the definition.
use Rattle.std.proofs.Common.{◌≡◌, ◌<◌, ◌≤◌, ◌+◌, ◌-◌, ◌*◌, ◌/◌, ◌%◌, ◌∙◌, ◌≢◌, ℕ, zero, suc, length, arith, rules, refl, ap, sym, slice_set, nat_eq, nat_lt, true, false, if◌then◌else◌, inl, inr}
use Rattle.std.proofs.lemmas.Bool.{cases_Bool, eqb-true, eqb-false}
use Rattle.s360_model.specs.Storage.{Storage}
use Rattle.s360_logic.specs.declared.field.Field.{Field}
use Rattle.s360_logic.specs.declared.right_to_left.NextByte.{NextByte}
use Rattle.s360_logic.specs.declared.row.DigitRow.{DigitRow}
use Rattle.s360_logic.specs.declared.row.DigitRow.TheVariants.{MoveWithOffset, Pack, Unpack}
use Rattle.s360_logic.specs.Bytes.{with_byte}
use Rattle.s360_logic.specs.Operands.{next_byte, FirstOperand, stored_in}
use Rattle.s360_logic.specs.RightToLeft.{DigitMove, address_from_right, byte_from_right, digits, exchanged, first_user, made_byte, result_byte, source_byte, storage_after, storage_before}
use Rattle.s360_logic.proofs.StepLemmas.{stored_in-next}

nat_lt-no : (m n : ℕ) → n ≤ m → nat_lt m n ≡ false
nat_lt-no m n h = search rules

nat_lt-yes : (m n : ℕ) → m < n → nat_lt m n ≡ true
nat_lt-yes m n h = search rules

-- storage before a byte is the same, however many bytes after it are made
storage_before-made : (d : DigitMove) (s : Storage) (n i : ℕ) → i ≤ n → storage_before d s (suc n) i ≡ storage_before d s n i
storage_before-made d s n i h = rw (nat_lt-no n i h) refl

storage_before-next : (d : DigitMove) (s : Storage) (n : ℕ) → storage_before d s (suc n) (suc n) ≡ storage_after d (storage_before d s n) n
storage_before-next d s n = rw (nat_lt-yes n (suc n) (omega arith)) refl

pub storage_before-first : (d : DigitMove) (s : Storage) (n : ℕ) → storage_before d s n 0 ≡ s
storage_before-first d s zero = refl
storage_before-first d s (suc n) = storage_before-made d s n 0 (omega arith) ∙ storage_before-first d s n

-- what is held before the byte at i: in the high digit that of the byte of the second operand that was fetched
-- before, or at first the low digit of the first operand; for unpack that byte
abbrev pub IsHeld : DigitRow → ℕ → ℕ → ℕ → (ℕ → ℕ) → Type 0
IsHeld MoveWithOffset i held rightmost source = held / 16 % 16 ≡ (if nat_eq i 0 then rightmost else source (i - 1) / 16) % 16
IsHeld Pack i held rightmost source = Unit {0}
IsHeld Unpack i held rightmost source = 1 < i → held ≡ source (i / 2)

-- bytes that no byte of the result has needed are fetched now
abbrev AreFetchedNow : DigitRow → Field → ℕ → (ℕ → ℕ) → Storage → Type 0
AreFetchedNow row second i source s = (j : ℕ) → first_user row j ≡ i → source j ≡ byte_from_right second s j

unpack-later : (i j : ℕ) → 2 * j - 1 ≡ i → first_user Unpack j ≡ i
unpack-later i j h = h

made-pack : (zone rightmost : ℕ) (second : Field) (i held : ℕ) (source : ℕ → ℕ) (s : Storage) → AreFetchedNow Pack second i source s
    → (next_byte Pack zone second i held s).byte ≡ result_byte Pack zone rightmost source i
made-pack zone rightmost second i held source s now =
    elim (cases_Bool (nat_eq i 0)) [
      | inl first ↦
          let e : i ≡ 0 = eqb-true _ _ first
          in rw first (ap exchanged (sym (now 0 (omega (arith, e)))))
      | inr later ↦
          let ne : i ≢ 0 = eqb-false _ _ later
          in rw later (
          ap (λ (x : ℕ). digits x (byte_from_right second s (2 * i - 1))) (sym (now (2 * i) (omega (arith, ne))))
          ∙ ap (λ (x : ℕ). digits (source (2 * i)) x) (sym (now (2 * i - 1) (omega (arith, ne))))
          )
    ]

made-unpack : (zone rightmost : ℕ) (second : Field) (i held : ℕ) (source : ℕ → ℕ) (s : Storage) → IsHeld Unpack i held rightmost source → AreFetchedNow Unpack second i source s
    → (next_byte Unpack zone second i held s).byte ≡ result_byte Unpack zone rightmost source i
made-unpack zone rightmost second i held source s h now =
    elim (cases_Bool (nat_eq i 0)) [
      | inl first ↦
          let e : i ≡ 0 = eqb-true _ _ first
          in rw first (ap exchanged (sym (now 0 (omega (arith, e)))))
      | inr later ↦
          let ne : i ≢ 0 = eqb-false _ _ later
          in elim (cases_Bool (nat_eq (i % 2) 1)) [
            | inl odd ↦
                let e : i % 2 ≡ 1 = eqb-true _ _ odd
                in rw (later, odd) (ap (λ (x : ℕ). digits zone x) (sym (now ((i + 1) / 2) (omega (arith, e)))))
            | inr even ↦
                let e : i % 2 ≢ 1 = eqb-false _ _ even
                in rw (later, even) (ap (λ (x : ℕ). digits zone (x / 16)) (h (omega (arith, ne, e))))
          ]
    ]

next_byte-is : (row : DigitRow) (zone rightmost : ℕ) (second : Field) (i held : ℕ) (source : ℕ → ℕ) (s : Storage) → IsHeld row i held rightmost source → AreFetchedNow row second i source s
    → (next_byte row zone second i held s).byte ≡ result_byte row zone rightmost source i
next_byte-is MoveWithOffset zone rightmost second i held source s h now =
    ap (λ (x : ℕ). x % 16 * 16 + held / 16 % 16) (sym (now i refl)) ∙ ap (λ (x : ℕ). source i % 16 * 16 + x) h
next_byte-is Pack zone rightmost second i held source s h now = made-pack zone rightmost second i held source s now
next_byte-is Unpack zone rightmost second i held source s h now = made-unpack zone rightmost second i held source s h now

-- and what is held then, by bytes that stay as they were fetched
IsHeld-next : (row : DigitRow) (zone rightmost : ℕ) (second : Field) (i held : ℕ) (source after : ℕ → ℕ) (s : Storage) → IsHeld row i held rightmost source → AreFetchedNow row second i source s
    → ((j : ℕ) → first_user row j ≤ i → after j ≡ source j)
    → IsHeld row (i + 1) (next_byte row zone second i held s).held rightmost after
IsHeld-next MoveWithOffset zone rightmost second i held source after s h now stay =
    let later : nat_eq (i + 1) 0 ≡ false = search rules
    in let back : i + 1 - 1 ≡ i = omega arith
    in rw (later, back) (ap (λ (x : ℕ). x / 16 % 16) (sym (stay i (omega arith) ∙ now i refl)))
IsHeld-next Pack zone rightmost second i held source after s h now stay = tt
IsHeld-next Unpack zone rightmost second i held source after s h now stay =
    elim (cases_Bool (nat_eq i 0)) [
      | inl first ↦
          let e : i ≡ 0 = eqb-true _ _ first
          in λ more. absurd (omega (arith, e, more))
      | inr later ↦
          let ne : i ≢ 0 = eqb-false _ _ later
          in elim (cases_Bool (nat_eq (i % 2) 1)) [
            | inl odd ↦
                let e : i % 2 ≡ 1 = eqb-true _ _ odd
                in rw (later, odd) (λ more. sym (stay ((i + 1) / 2) (omega (arith, e)) ∙ now ((i + 1) / 2) (omega (arith, e))))
            | inr even ↦
                let e : i % 2 ≢ 1 = eqb-false _ _ even
                in let half : (i + 1) / 2 ≡ i / 2 = omega (arith, e)
                in rw (later, even, half) (λ more. h (omega (arith, ne, e)) ∙ sym (stay (i / 2) (omega arith)))
          ]
    ]

-- so many bytes of the result are stored, and the byte that the next may need is held
pub record HasMade (d : DigitMove) (s : Storage) (i held : ℕ) (t : Storage) : Type 0 where
  pub is_held : IsHeld d.row i held (byte_from_right d.first s 0) (source_byte d (storage_before d s i))
  pub stored : t ≡ storage_before d s i i

-- none
pub HasMade-first : (d : DigitMove) (s : Storage) → HasMade d s 0 (digits (byte_from_right d.first s 0) 0) s
HasMade-first d s = record { is_held = first_held d.row; stored = refl } where
  first_held : (row : DigitRow) → IsHeld row 0 (digits (byte_from_right d.first s 0) 0) (byte_from_right d.first s 0) (source_byte d (storage_before d s 0))
  first_held MoveWithOffset = omega arith
  first_held Pack = tt
  first_held Unpack = λ more. absurd (omega (arith, more))

-- one byte more
fetched-now : (d : DigitMove) (s t : Storage) (i : ℕ) → t ≡ storage_before d s i i → AreFetchedNow d.row d.second i (source_byte d (storage_before d s i)) t
fetched-now d s t i e = λ j h. ap (λ k. byte_from_right d.second (storage_before d s i k) j) h ∙ ap (λ (x : Storage). byte_from_right d.second x j) (sym e)

fetched-stay : (d : DigitMove) (s : Storage) (i j : ℕ) → first_user d.row j ≤ i → source_byte d (storage_before d s (i + 1)) j ≡ source_byte d (storage_before d s i) j
fetched-stay d s i j h =
    let next : i + 1 ≡ suc i = omega arith
    in rw next (ap (λ (x : Storage). byte_from_right d.second x j) (storage_before-made d s i (first_user d.row j) h))

pub HasMade-next : (d : DigitMove) (s : Storage) (i held : ℕ) (next : NextByte) (o : FirstOperand) → i < d.first.count → length o.bytes ≡ d.first.count → o.address ≡ d.first.address
    → o.address + length o.bytes ≤ length o.storage.bytes → next ≡ next_byte d.row d.zone d.second i held (stored_in o)
    → HasMade d s i held (stored_in o)
    → HasMade d s (i + 1) next.held (stored_in (record o { bytes = slice_set o.bytes (d.first.count - 1 - i) next.byte }))
HasMade-next d s i held next o h len here inside e made =
    let before : ℕ → Storage = storage_before d s i
    in let now : AreFetchedNow d.row d.second i (source_byte d before) (stored_in o) = fetched-now d s (stored_in o) i made.stored
    in let rightmost : byte_from_right d.first s 0 ≡ byte_from_right d.first (before 0) 0 = ap (λ (x : Storage). byte_from_right d.first x 0) (sym (storage_before-first d s i))
    in let byte : next.byte ≡ made_byte d before i
    = ap (λ (b : NextByte). b.byte) e ∙ next_byte-is d.row d.zone (byte_from_right d.first s 0) d.second i held (source_byte d before) (stored_in o) made.is_held now
    ∙ ap (λ x. result_byte d.row d.zone x (source_byte d before) i) rightmost
    in let there : d.first.address + (d.first.count - 1 - i) ≡ address_from_right d.first i = omega (arith, h)
    in let one : i + 1 ≡ suc i = omega arith
    in record {
      is_held = rw e (IsHeld-next d.row d.zone (byte_from_right d.first s 0) d.second i held (source_byte d before) (source_byte d (storage_before d s (i + 1))) (stored_in o) made.is_held now (fetched-stay d s i));
      stored = stored_in-next d.first.address (d.first.count - 1 - i) next.byte (made_byte d before i) o (omega (arith, len, h)) here inside byte
          ∙ ap (λ a. with_byte a (made_byte d before i) (stored_in o)) there
          ∙ ap (with_byte (address_from_right d.first i) (made_byte d before i)) made.stored
          ∙ sym (storage_before-next d s i) ∙ ap (λ k. storage_before d s k k) (sym one);
    }
