-- Fifteen digits, read or written from the high one to the low one, a step at each place; and a word that
-- is written is the one that is read.
use Rattle.std.proofs.Common.{◌≡◌, ◌<◌, ◌≤◌, ◌+◌, ◌-◌, ◌*◌, ◌/◌, ◌%◌, ◌^◌, ℕ, zero, suc, Bool, true, false, nat_lt, Option, Some, None, refl, ◌∙◌, ap, arith, negsuc, option_map, if◌then◌else◌, ℤ, pos, ◌-ℤ◌, unsigned_abs, lt-ltb, le-ltb, ltb-false, ltb-true}
use Rattle.std.proofs.lemmas.Int.{ints}
use Rattle.std.proofs.lemmas.Nat.{div-mul-add, mod-mul-add, div_below}
use Rattle.std.proofs.Math.Nat.{div-div-eq-div-mul, pow-suc, pow-le-pow_right, mul_comm}
use Rattle.s360_model.specs.Arithmetic.{word_of}
use Rattle.s360_model.specs.Numbers.{fits_word, signed}
use Rattle.s360_model.specs.Packed.{digits_value, packed, packed_digits, packed_value, signed_magnitude}
use Rattle.s360_word.specs.Laws.{PackedRestores}

-- what stands above a place, without its lowest digit
above : (base place n : ℕ) → n / base ^ place / base ≡ n / base ^ suc place
above base place n = div-div-eq-div-mul n (base ^ place) base ∙ rw (pow-suc base place) refl

-- so many digits are below the power
pub packed_digits-below : (count n : ℕ) → packed_digits count n < 16 ^ count
unfolding packed_digits
packed_digits-below zero n = omega arith
packed_digits-below (suc count) n = omega (arith, packed_digits-below count (n / 10), pow-suc 16 count)

-- those above a place leave room for one more
pub packed_digits-room : (place n : ℕ) → 0 < place → packed_digits (15 - place) n < 16 ^ 14
packed_digits-room place n h =
    let most : 15 - place ≤ 14 = omega arith
    in let room : 16 ^ (15 - place) ≤ 16 ^ 14 = pow-le-pow_right (omega arith) most
    in omega (arith, packed_digits-below (15 - place) n)

-- the digits from a place on, and one more
packed_digits-more : (count place n : ℕ) → packed_digits count (n / 10 ^ suc place) * 16 + n / 10 ^ place % 10 ≡ packed_digits (suc count) (n / 10 ^ place)
unfolding packed_digits
packed_digits-more count place n = rw (← (above 10 place n)) refl

-- the same for the place that a loop has come to, of fifteen
pub packed_digits-next : (place n : ℕ) → 0 < place → place ≤ 15 → packed_digits (15 - place) (n / 10 ^ place) * 16 + n / 10 ^ (place - 1) % 10 ≡ packed_digits (15 - (place - 1)) (n / 10 ^ (place - 1))
packed_digits-next zero n h k = absurd (omega arith)
packed_digits-next (suc place) n h k =
    let low : suc place - 1 ≡ place = omega arith
    in let more : 15 - place ≡ suc (15 - suc place) = omega arith
    in rw (low, more) (packed_digits-more (15 - suc place) place n)

-- the value from a place on, and with one more digit
digits_value-more : (count place n value : ℕ) → digits_value count (n / 16 ^ suc place) ≡ Some value → n / 16 ^ place % 16 ≤ 9
    → digits_value (suc count) (n / 16 ^ place) ≡ Some (value * 10 + n / 16 ^ place % 16)
unfolding digits_value
digits_value-more count place n value is digit =
    rw (lt-ltb (n / 16 ^ place % 16) 10 (omega arith), above 16 place n, is) refl

-- the same for the place that a loop has come to, of fifteen
pub digits_value-next : (place n value : ℕ) → 0 < place → place ≤ 15 → digits_value (15 - place) (n / 16 ^ place) ≡ Some value → n / 16 ^ (place - 1) % 16 ≤ 9
    → digits_value (15 - (place - 1)) (n / 16 ^ (place - 1)) ≡ Some (value * 10 + n / 16 ^ (place - 1) % 16)
digits_value-next zero n value h k is digit = absurd (omega arith)
digits_value-next (suc place) n value h k is digit =
    let low : suc place - 1 ≡ place = omega arith
    in let more : 15 - place ≡ suc (15 - suc place) = omega arith
    in rw (low, more) (digits_value-more (15 - suc place) place n value is (rw low at digit))

-- a value with one more digit is below the next power
below_value : (count digit : ℕ) (high : Option ℕ) (value : ℕ) → ((v : ℕ) → high ≡ Some v → v < 10 ^ count) → digit < 10 → option_map (λ v. v * 10 + digit) high ≡ Some value → value < 10 ^ suc count
below_value count digit None value below small is = absurd (cc)
below_value count digit (Some v) value below small is =
    let e : v * 10 + digit ≡ value = cc
    in let b : v < 10 ^ count = below v refl
    in omega (arith, pow-suc 10 count)

-- a value has no more digits than it was read from
pub digits_value-below : (count n value : ℕ) → digits_value count n ≡ Some value → value < 10 ^ count
unfolding digits_value
digits_value-below zero n value is = let e : 0 ≡ value = cc in omega arith
digits_value-below (suc count) n value is =
    let by : (t : Bool) → nat_lt (n % 16) 10 ≡ t → value < 10 ^ suc count
    = λ t. elim t as (λ x. nat_lt (n % 16) 10 ≡ x → value < 10 ^ suc count) [
      | true ↦ λ e. below_value count (n % 16) (digits_value count (n / 16)) value (λ v h. digits_value-below count (n / 16) v h) (ltb-true _ _ e) (rw e at is)
      | false ↦ λ e. let none : None ≡ Some value = rw e at is in absurd (cc)
    ]
    in by (nat_lt (n % 16) 10) refl

-- that of the digits above a place leaves room for one more
pub digits_value-room : (place n value : ℕ) → 0 < place → digits_value (15 - place) n ≡ Some value → value < 10 ^ 14
digits_value-room place n value h is =
    let most : 15 - place ≤ 14 = omega arith
    in let room : 10 ^ (15 - place) ≤ 10 ^ 14 = pow-le-pow_right (omega arith) most
    in omega (arith, digits_value-below (15 - place) n value is)

-- no value, whatever the test says
both_none : (test : Bool) (value : Option ℕ) → value ≡ None → (if test then value else None) ≡ None
both_none true value is = is
both_none false value is = refl

-- what stands above a place, with the lowest digit gone first
below_place : (place n : ℕ) → n / 16 / 16 ^ place ≡ n / 16 ^ suc place
below_place place n = div-div-eq-div-mul n 16 (16 ^ place) ∙ rw (pow-suc 16 place, mul_comm 16 (16 ^ place)) refl

-- where the digits from a place on are no number, neither are all
none_above : (count place n : ℕ) → digits_value count (n / 16 ^ place) ≡ None → digits_value (place + count) n ≡ None
unfolding digits_value
none_above count zero n is =
    let all : n / 1 ≡ n = omega arith
    in let none : zero + count ≡ count = omega arith
    in rw none (rw all at is)
none_above count (suc place) n is =
    let low : digits_value (place + count) (n / 16) ≡ None = none_above count place (n / 16) (rw (below_place place n) is)
    in let more : suc place + count ≡ suc (place + count) = omega arith
    in rw more (both_none (nat_lt (n % 16) 10) _ (rw low refl))

-- a digit that is none
bad_digit : (count n : ℕ) → 9 < n % 16 → digits_value (suc count) n ≡ None
unfolding digits_value
bad_digit count n h = rw (le-ltb _ _ h) refl

pub digits_value-none : (place n : ℕ) → place < 15 → 9 < n / 16 ^ place % 16 → digits_value 15 n ≡ None
digits_value-none place n h digit =
    let none : digits_value (suc (14 - place)) (n / 16 ^ place) ≡ None = bad_digit (14 - place) (n / 16 ^ place) digit
    in let all : place + suc (14 - place) ≡ 15 = omega arith
    in rw (← all) (none_above (suc (14 - place)) place n none)

-- the digits of a number that has so many are read as that number
value_of_digits : (count n : ℕ) → n < 10 ^ count → digits_value count (packed_digits count n) ≡ Some n
unfolding digits_value packed_digits
value_of_digits zero n h = ap Some (omega arith)
value_of_digits (suc count) n h =
    let digit : n % 10 < 16 = omega arith
    in let decimal : nat_lt (n % 10) 10 ≡ true = lt-ltb _ _ (omega arith)
    in let fewer : n / 10 < 10 ^ count = div_below n 10 (10 ^ count) (omega arith) (omega (arith, pow-suc 10 count))
    in let high : digits_value count (packed_digits count (n / 10)) ≡ Some (n / 10) = value_of_digits count (n / 10) fewer
    in let low : (packed_digits count (n / 10) * 16 + n % 10) % 16 ≡ n % 10 = mod-mul-add _ 16 _ digit
    in let rest : (packed_digits count (n / 10) * 16 + n % 10) / 16 ≡ packed_digits count (n / 10) = div-mul-add _ 16 _ digit
    in rw (low, decimal, rest, high) (ap Some (omega arith))

-- digits with a sign are read as the number of the digits with that sign
value_with_sign : (digits sign magnitude : ℕ) → sign < 16 → digits_value 15 digits ≡ Some magnitude → packed_value (digits * 16 + sign) ≡ signed_magnitude sign magnitude
value_with_sign digits sign magnitude h is = rw (mod-mul-add digits 16 sign h, div-mul-add digits 16 sign h, is) refl

-- zero minus a number that is not zero
minus : (n : ℕ) → pos 0 -ℤ pos (suc n) ≡ negsuc n
minus n = omega (arith, ints)

-- a number of fifteen digits is read as it was written
value_of_packed : (ascii : Bool) (n : ℤ) → unsigned_abs n < 10 ^ 15 → packed_value (packed ascii n) ≡ Some n
value_of_packed true (pos n) h = rw (le-ltb n 0 (omega arith)) (value_with_sign (packed_digits 15 n) 0xA n (omega arith) (value_of_digits 15 n h))
value_of_packed false (pos n) h = rw (le-ltb n 0 (omega arith)) (value_with_sign (packed_digits 15 n) 0xC n (omega arith) (value_of_digits 15 n h))
value_of_packed true (negsuc n) h = value_with_sign (packed_digits 15 (suc n)) 0xB (suc n) (omega arith) (value_of_digits 15 (suc n) h) ∙ ap Some (minus n)
value_of_packed false (negsuc n) h = value_with_sign (packed_digits 15 (suc n)) 0xD (suc n) (omega arith) (value_of_digits 15 (suc n) h) ∙ ap Some (minus n)

-- the number that a word stands for fits that word, and has few digits
record StandsFor (word : ℕ) : Type 0 where
  fits : fits_word (signed word) ≡ true
  same : word_of (signed word) ≡ word
  below : unsigned_abs (signed word) < 10 ^ 15

stands_for : (word : ℕ) → word < 2 ^ 32 → StandsFor word
stands_for word h =
    let by : (t : Bool) → nat_lt word (2 ^ 31) ≡ t → StandsFor word
    = λ t. elim t as (λ x. nat_lt word (2 ^ 31) ≡ x → StandsFor word) [
      | true ↦ λ e.
          let small : word < 2 ^ 31 = ltb-true _ _ e
          in let z : signed word ≡ pos word = rw e refl
          in record {
            fits = rw (z, le-ltb (2 ^ 31 - 1) word (omega arith)) refl;
            same = rw z (omega arith);
            below = rw z (omega arith);
          }
      | false ↦ λ e.
          let large : 2 ^ 31 ≤ word = ltb-false _ _ e
          in let k : ℕ = 2 ^ 32 - word - 1
          in let z : signed word ≡ negsuc k = rw e (omega (arith, ints))
          in record {
            fits = rw (z, le-ltb (2 ^ 31 - 1) k (omega arith)) refl;
            same = rw z (omega arith);
            below = rw z (omega arith);
          }
    ]
    in by (nat_lt word (2 ^ 31)) refl

-- a word that is written is the one that is read
pub packed-restores : PackedRestores
packed-restores word ascii h =
    let of = stands_for word h
    in rw (value_of_packed ascii (signed word) of.below, of.fits, of.same) refl
