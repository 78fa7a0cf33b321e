-- A shift's overflow is a lost bit that is unlike the sign.
use Rattle.std.proofs.Common.{◌≡◌, ◌≢◌, ◌<◌, ◌≤◌, ◌+◌, ◌-◌, ◌*◌, ◌%◌, ◌^◌, ◌↔◌, ℕ, zero, suc, Bool, true, false, nat_eq, nat_lt, refl, sym, ◌∙◌, ap, arith, subst, negsuc, neg_ℤ, ℤ, pos, int_lt, not, ◌&&◌, if◌then◌else◌, eqb-true, eq-eqb, ltb-false, ltb-true}
use Rattle.std.proofs.Math.IntN.{pos-*ℤ-pos, negsuc-*ℤ-pos}
use Rattle.std.proofs.lemmas.Int.{ints}
use Rattle.s360_model.specs.ConditionCodes.{sign_code, signed_code}
use Rattle.s360_model.specs.Numbers.{signed, fits_word}
use Rattle.s360_model.specs.Pairs.{fits_pair, pair_of, signed_pair, signed_pair_code}
use Rattle.s360_model.specs.Shifts.{times_power}
use Rattle.std.specs.Int.{bit_at}
use Rattle.std.proofs.lemmas.Nat.{mod-pow-add, pow_pos}
use Rattle.std.proofs.lemmas.Nat.Bits.{bit_at-zero, bit_at_ones}
use Rattle.std.proofs.Math.Nat.{add-mul, mul_comm, mul-sub, mod-eq_of_lt, div-mul-le_self, lt-div-mul-add, lt_of_mul-lt-mul_right, mul-lt-mul_of_pos_right, mul-pos}
use Rattle.s360_word.specs.Laws.{lost_bits, LosesBitUnlikeSign, WordOverflowIsALostBit, PairOverflowIsALostBit}

-- two numbers that differ in their low bits differ in one of them
differing_bit : (c a b : ℕ) → a % 2 ^ c ≢ b % 2 ^ c → (i : ℕ) × (i < c) × (bit_at a i ≢ bit_at b i)
differing_bit zero a b h = absurd (h (omega arith))
differing_bit (suc c) a b h =
    let by : (t : Bool) → nat_eq (bit_at a c) (bit_at b c) ≡ t → (i : ℕ) × (i < suc c) × (bit_at a i ≢ bit_at b i)
    = λ t. elim t as (λ x. nat_eq (bit_at a c) (bit_at b c) ≡ x → (i : ℕ) × (i < suc c) × (bit_at a i ≢ bit_at b i)) [
      | true ↦ λ e.
          let same : bit_at a c ≡ bit_at b c = eqb-true (bit_at a c) (bit_at b c) e
          in let more : 1 + c ≡ suc c = omega arith
          in let low : a % 2 ^ c ≢ b % 2 ^ c = λ s. h (rw (← more, mod-pow-add a 1 c, mod-pow-add b 1 c, s, same) refl)
          in let found = differing_bit c a b low
          in (found.0, omega (arith, found.1), found.2)
      | false ↦ λ e. (c, omega arith, λ s. let t : nat_eq (bit_at a c) (bit_at b c) ≡ true = eq-eqb _ _ s in cc)
    ]
    in by (nat_eq (bit_at a c) (bit_at b c)) refl

sub_mul : (n m k : ℕ) → (n - m) * k ≡ n * k - m * k
sub_mul n m k = mul_comm (n - m) k ∙ mul-sub k n m ∙ rw (mul_comm k n, mul_comm k m) refl

-- what the lost bits are as a number
record AreLost (b n q l : ℕ) : Type 0 where
  below : l < q
  least : l * b ≤ n * q
  most : n * q < l * b + b

lost : (w number c : ℕ) → AreLost (2 ^ w) (number % 2 ^ w) (2 ^ c) (lost_bits w number c)
lost w number c =
    let base : 0 < 2 ^ w = pow_pos w
    in let power : 0 < 2 ^ c = pow_pos c
    in let n : number % 2 ^ w < 2 ^ w = omega arith
    in let least : lost_bits w number c * 2 ^ w ≤ number % 2 ^ w * 2 ^ c = div-mul-le_self _ _
    in let most : number % 2 ^ w * 2 ^ c < lost_bits w number c * 2 ^ w + 2 ^ w = lt-div-mul-add base
    in let all : number % 2 ^ w * 2 ^ c < 2 ^ w * 2 ^ c = mul-lt-mul_of_pos_right n power
    in let turned : lost_bits w number c * 2 ^ w < 2 ^ c * 2 ^ w = omega (arith, mul_comm (2 ^ w) (2 ^ c))
    in record {
      below = lt_of_mul-lt-mul_right (2 ^ w) turned;
      least = least;
      most = most;
    }

-- a number with a sign of zero: its multiple has as many bits as it had, or one that is lost is one
overflow-positive : (w number c : ℕ) → bit_at number w ≡ 0 → (2 ^ w ≤ number % 2 ^ w * 2 ^ c) ↔ LosesBitUnlikeSign w number c
overflow-positive w number c sign =
    let l : ℕ = lost_bits w number c
    in let are : AreLost (2 ^ w) (number % 2 ^ w) (2 ^ c) l = lost w number c
    in let base : 0 < 2 ^ w = pow_pos w
    in let power : 0 < 2 ^ c = pow_pos c
    in let there : 2 ^ w ≤ number % 2 ^ w * 2 ^ c → LosesBitUnlikeSign w number c
    = λ h.
    let some : l ≢ 0 = λ z. absurd (let m : number % 2 ^ w * 2 ^ c < l * 2 ^ w + 2 ^ w = are.most in let e : l * 2 ^ w ≡ 0 = rw z (omega arith) in omega (arith, m, e, h))
    in let low : l % 2 ^ c ≢ 0 % 2 ^ c = λ e. some (sym (mod-eq_of_lt are.below) ∙ e ∙ mod-eq_of_lt power)
    in let found = differing_bit c l 0 low
    in (found.0, found.1, λ e. found.2 (e ∙ sign ∙ sym (bit_at-zero found.0)))
    in let back : LosesBitUnlikeSign w number c → 2 ^ w ≤ number % 2 ^ w * 2 ^ c
    = λ h.
    let by : (t : Bool) → nat_lt (number % 2 ^ w * 2 ^ c) (2 ^ w) ≡ t → 2 ^ w ≤ number % 2 ^ w * 2 ^ c
    = λ t. elim t as (λ x. nat_lt (number % 2 ^ w * 2 ^ c) (2 ^ w) ≡ x → 2 ^ w ≤ number % 2 ^ w * 2 ^ c) [
      | true ↦ λ e.
          let less : number % 2 ^ w * 2 ^ c < 1 * 2 ^ w = omega (arith, ltb-true _ _ e)
          in let one : l < 1 = lt_of_mul-lt-mul_right (2 ^ w) (omega (arith, are.least, less))
          in let none : l ≡ 0 = omega arith
          in absurd (h.2 (rw none (bit_at-zero h.0) ∙ sym sign))
      | false ↦ λ e. ltb-false _ _ e
    ]
    in by (nat_lt (number % 2 ^ w * 2 ^ c) (2 ^ w)) refl
    in (there, back)

-- a number with a sign of one: the multiple of its distance from the next power fits, or a lost bit is zero
overflow-negative : (w number c : ℕ) → bit_at number w ≡ 1 → (2 ^ w < (2 ^ w - number % 2 ^ w) * 2 ^ c) ↔ LosesBitUnlikeSign w number c
overflow-negative w number c sign =
    let l : ℕ = lost_bits w number c
    in let are : AreLost (2 ^ w) (number % 2 ^ w) (2 ^ c) l = lost w number c
    in let n : number % 2 ^ w < 2 ^ w = omega arith
    in let base : 0 < 2 ^ w = pow_pos w
    in let power : 0 < 2 ^ c = pow_pos c
    in let distance : (2 ^ w - number % 2 ^ w) * 2 ^ c ≡ 2 ^ w * 2 ^ c - number % 2 ^ w * 2 ^ c = sub_mul (2 ^ w) (number % 2 ^ w) (2 ^ c)
    in let less : number % 2 ^ w * 2 ^ c < 2 ^ w * 2 ^ c = mul-lt-mul_of_pos_right n power
    in let ones : (2 ^ c - 1) * 2 ^ w ≡ 2 ^ c * 2 ^ w - 1 * 2 ^ w = sub_mul (2 ^ c) 1 (2 ^ w)
    in let turned : 2 ^ c * 2 ^ w ≡ 2 ^ w * 2 ^ c = mul_comm (2 ^ c) (2 ^ w)
    in let there : 2 ^ w < (2 ^ w - number % 2 ^ w) * 2 ^ c → LosesBitUnlikeSign w number c
    = λ h.
    let some : l ≢ 2 ^ c - 1 = λ z. absurd (let m : l * 2 ^ w ≤ number % 2 ^ w * 2 ^ c = are.least in let e : l * 2 ^ w ≡ (2 ^ c - 1) * 2 ^ w = rw z refl in omega (arith, m, e, ones, turned, distance, less, h))
    in let low : l % 2 ^ c ≢ (2 ^ c - 1) % 2 ^ c = λ e. some (sym (mod-eq_of_lt are.below) ∙ e ∙ mod-eq_of_lt (omega arith))
    in let found = differing_bit c l (2 ^ c - 1) low
    in (found.0, found.1, λ e. found.2 (e ∙ sign ∙ sym (bit_at_ones c found.0 found.1)))
    in let back : LosesBitUnlikeSign w number c → 2 ^ w < (2 ^ w - number % 2 ^ w) * 2 ^ c
    = λ h.
    let by : (t : Bool) → nat_lt (2 ^ w) ((2 ^ w - number % 2 ^ w) * 2 ^ c) ≡ t → 2 ^ w < (2 ^ w - number % 2 ^ w) * 2 ^ c
    = λ t. elim t as (λ x. nat_lt (2 ^ w) ((2 ^ w - number % 2 ^ w) * 2 ^ c) ≡ x → 2 ^ w < (2 ^ w - number % 2 ^ w) * 2 ^ c) [
      | true ↦ λ e. ltb-true _ _ e
      | false ↦ λ e.
          let most : number % 2 ^ w * 2 ^ c < l * 2 ^ w + 2 ^ w = are.most
          in let next : (l + 1) * 2 ^ w ≡ l * 2 ^ w + 1 * 2 ^ w = add-mul l 1 (2 ^ w)
          in let above : (2 ^ c - 1) * 2 ^ w < (l + 1) * 2 ^ w = omega (arith, most, next, ones, turned, distance, less, base, ltb-false _ _ e)
          in let last : 2 ^ c - 1 < l + 1 = lt_of_mul-lt-mul_right (2 ^ w) above
          in let full : l ≡ 2 ^ c - 1 = omega (arith, are.below)
          in absurd (h.2 (rw full (bit_at_ones c h.0 h.1) ∙ sym sign))
    ]
    in by (nat_lt (2 ^ w) ((2 ^ w - number % 2 ^ w) * 2 ^ c)) refl
    in (there, back)

-- a number that is not negative overflows by its multiple, and a negative one by that of its distance from zero
overflow-pos : (w number c : ℕ) (overflows : ℤ → Type 0) → ((x : ℕ) → overflows (pos x) ↔ (2 ^ w ≤ x)) → bit_at number w ≡ 0 → number % 2 ^ w ≡ number
    → overflows (times_power (pos number) c) ↔ LosesBitUnlikeSign w number c
overflow-pos w number c overflows over sign low =
    let law : (2 ^ w ≤ number * 2 ^ c) ↔ LosesBitUnlikeSign w number c = subst (λ n. (2 ^ w ≤ n * 2 ^ c) ↔ LosesBitUnlikeSign w number c) low (overflow-positive w number c sign)
    in let exact : times_power (pos number) c ≡ pos (number * 2 ^ c) = pos-*ℤ-pos number (2 ^ c)
    in rw exact (λ h. law.0 ((over (number * 2 ^ c)).0 h), λ h. (over (number * 2 ^ c)).1 (law.1 h))

neg_pos : (n : ℕ) → 0 < n → neg_ℤ (pos n) ≡ negsuc (n - 1)
neg_pos zero h = absurd (omega arith)
neg_pos (suc n) h = ap negsuc (omega arith)

overflow-neg : (w number c k : ℕ) (overflows : ℤ → Type 0) → ((x : ℕ) → overflows (negsuc x) ↔ (2 ^ w ≤ x)) → bit_at number w ≡ 1 → 2 ^ w - number % 2 ^ w ≡ suc k
    → overflows (times_power (negsuc k) c) ↔ LosesBitUnlikeSign w number c
overflow-neg w number c k overflows over sign low =
    let law : (2 ^ w < suc k * 2 ^ c) ↔ LosesBitUnlikeSign w number c = subst (λ n. (2 ^ w < n * 2 ^ c) ↔ LosesBitUnlikeSign w number c) low (overflow-negative w number c sign)
    in let some : 0 < suc k * 2 ^ c = mul-pos (omega arith) (pow_pos c)
    in let exact : times_power (negsuc k) c ≡ negsuc (suc k * 2 ^ c - 1) = negsuc-*ℤ-pos k (2 ^ c) ∙ neg_pos (suc k * 2 ^ c) some
    in rw exact (λ h. law.0 (omega (arith, (over (suc k * 2 ^ c - 1)).0 h)), λ h. (over (suc k * 2 ^ c - 1)).1 (omega (arith, law.1 h)))

-- the code is 3 just where the number does not fit
sign_code-below : (z : ℤ) → sign_code z < 3
sign_code-below z =
    let by : (b c : Bool) → (if b then 1 else (if c then 2 else 0)) < 3
    = λ b. elim b as (λ x. (c : Bool) → (if x then 1 else (if c then 2 else 0)) < 3)
    [ true ↦ λ c. omega arith | false ↦ λ c. elim c as (λ y. (if y then 2 else 0) < 3) [ true ↦ omega arith | false ↦ omega arith ] ]
    in by (int_lt z (pos 0)) (int_lt (pos 0) z)

code_is_3 : (n : ℕ) (fits : Bool) → n < 3 → ((if fits then n else 3) ≡ 3) ↔ (fits ≡ false)
code_is_3 n true h = (λ e. absurd (omega arith), λ e. absurd (cc))
code_is_3 n false h = (λ e. refl, λ e. refl)

past : (a x : ℕ) → (not (nat_lt a x) ≡ false) ↔ (a + 1 ≤ x)
past a x =
    let by : (t : Bool) → nat_lt a x ≡ t → (not t ≡ false) ↔ (a + 1 ≤ x)
    = λ t. elim t as (λ y. nat_lt a x ≡ y → (not y ≡ false) ↔ (a + 1 ≤ x))
    [ true ↦ λ e. (λ h. omega (arith, ltb-true _ _ e), λ h. refl) | false ↦ λ e. (λ h. absurd (cc), λ h. absurd (omega (arith, ltb-false _ _ e))) ]
    in by (nat_lt a x) refl

and_true : (b : Bool) → (b && true) ≡ b
and_true true = refl
and_true false = refl

word_overflows : (z : ℤ) → (signed_code z ≡ 3) ↔ (fits_word z ≡ false)
word_overflows z = code_is_3 (sign_code z) (fits_word z) (sign_code-below z)

word_past : (x : ℕ) → (fits_word (pos x) ≡ false) ↔ (2 ^ 31 ≤ x)
word_past x = past (2 ^ 31 - 1) x

word_before : (x : ℕ) → (fits_word (negsuc x) ≡ false) ↔ (2 ^ 31 ≤ x)
word_before x = rw (and_true (not (nat_lt (2 ^ 31 - 1) x))) (past (2 ^ 31 - 1) x)

pair_overflows : (z : ℤ) → (signed_pair_code z ≡ 3) ↔ (fits_pair z ≡ false)
pair_overflows z = code_is_3 (sign_code z) (fits_pair z) (sign_code-below z)

pair_past : (x : ℕ) → (fits_pair (pos x) ≡ false) ↔ (2 ^ 63 ≤ x)
pair_past x = past (2 ^ 63 - 1) x

pair_before : (x : ℕ) → (fits_pair (negsuc x) ≡ false) ↔ (2 ^ 63 ≤ x)
pair_before x = rw (and_true (not (nat_lt (2 ^ 63 - 1) x))) (past (2 ^ 63 - 1) x)

through : {A B C : Type 0} → A ↔ B → B ↔ C → A ↔ C
through f g = (λ a. g.0 (f.0 a), λ c. f.1 (g.1 c))

pub word-overflow : WordOverflowIsALostBit
word-overflow word c h =
    let by : (t : Bool) → nat_lt word (2 ^ 31) ≡ t → (signed_code (times_power (signed word) c) ≡ 3) ↔ LosesBitUnlikeSign 31 word c
    = λ t. elim t as (λ x. nat_lt word (2 ^ 31) ≡ x → (signed_code (times_power (signed word) c) ≡ 3) ↔ LosesBitUnlikeSign 31 word c) [
      | true ↦ λ e.
          let below = ltb-true _ _ e
          in let z : signed word ≡ pos word = rw e refl
          in rw z (through (word_overflows (times_power (pos word) c)) (overflow-pos 31 word c (λ x. fits_word x ≡ false) word_past (omega (arith, below)) (omega (arith, below))))
      | false ↦ λ e.
          let above = ltb-false _ _ e
          in let k : ℕ = 2 ^ 32 - word - 1
          in let z : signed word ≡ negsuc k = rw e (omega (arith, ints, above))
          in rw z (through (word_overflows (times_power (negsuc k) c)) (overflow-neg 31 word c k (λ x. fits_word x ≡ false) word_before (omega (arith, above)) (omega (arith, above))))
    ]
    in by (nat_lt word (2 ^ 31)) refl

pub pair-overflow : PairOverflowIsALostBit
pair-overflow high low c h l =
    let pair : ℕ = pair_of high low
    in let by : (t : Bool) → nat_lt high (2 ^ 31) ≡ t → (signed_pair_code (times_power (signed_pair high low) c) ≡ 3) ↔ LosesBitUnlikeSign 63 pair c
    = λ t. elim t as (λ x. nat_lt high (2 ^ 31) ≡ x → (signed_pair_code (times_power (signed_pair high low) c) ≡ 3) ↔ LosesBitUnlikeSign 63 pair c) [
      | true ↦ λ e.
          let below = ltb-true _ _ e
          in let z : signed_pair high low ≡ pos pair = rw e refl
          in rw z (through (pair_overflows (times_power (pos pair) c)) (overflow-pos 63 pair c (λ x. fits_pair x ≡ false) pair_past (omega (arith, below)) (omega (arith, below))))
      | false ↦ λ e.
          let above = ltb-false _ _ e
          in let k : ℕ = 2 ^ 64 - pair - 1
          in let z : signed_pair high low ≡ negsuc k = rw e (omega (arith, ints, above))
          in rw z (through (pair_overflows (times_power (negsuc k) c)) (overflow-neg 63 pair c k (λ x. fits_pair x ≡ false) pair_before (omega (arith, above)) (omega (arith, above))))
    ]
    in by (nat_lt high (2 ^ 31)) refl
