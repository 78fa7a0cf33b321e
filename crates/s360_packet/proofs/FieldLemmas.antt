-- The fields of requests, as they are written, are read.
use Rattle.std.proofs.Common.{◌≡◌, ◌≢◌, ◌<◌, ◌≤◌, ◌+◌, ◌*◌, ◌/◌, ◌%◌, ◌^◌, ◌++◌, ℕ, zero, suc, Ok, Err, List, [], ◌∷◌, Bool, true, false, cond, not, refl, ap, ◌∙◌, length, nat_lt, nat_le, nat_eq, take, drop, codes, arith, rules, eq-eqb, length-append}
use native.Mathlib.Numerals.{unary_clauses}
use Rattle.std.proofs.lemmas.Bool.{and_parts, eqb-true, eqb-false, lt-ltb, le-leb, le-ltb}
use Rattle.std.proofs.lemmas.Bool.Decides.{nat_tests}
use Rattle.std.proofs.lemmas.Str.{digit_value-digit_char}
use Rattle.std.specs.Char.{digit_char, is_digit}
use Rattle.std.specs.Fmt.{digits, digits_onto}
use Rattle.std.specs.List.{list_all, prefix_len}
use Rattle.std.specs.Str.Parse.{digits_value_after}
use Rattle.s360_packet.specs.Hexadecimal.{number_text, word_text}
use Rattle.s360_packet.proofs.DigitLemmas.{digit_read, not_true}
use Rattle.s360_packet.specs.RequestTexts.{two_texts}
use Rattle.s360_packet.specs.Requests.{Parsed, is_text, number_in, word_in, parted, two_numbers}
use Rattle.s360_packet.specs.declared.request.RequestFault.TheVariants.{Malformed}

-- the digits of a number before others: what passes each digit passes them, and the value goes on from the number
record AreDigitsOf (p : ℕ → Bool) (n width : ℕ) (more ds : List ℕ) : Type 0 where
  pass : list_all p ds ≡ list_all p more
  value : digits_value_after 16 0 ds ≡ digits_value_after 16 n more
  short : length ds ≤ width + length more
  some : 1 ≤ length ds

wide : (width n : ℕ) → n < 16 ^ suc width → n / 16 ≢ 0 → 1 ≤ width
wide zero n fits high = absurd (high (omega arith))
wide (suc width) n fits high = omega arith

digits_before : (p : ℕ → Bool) → ((d : ℕ) → d < 16 → p (digit_char d) ≡ true) → (k width n : ℕ) (more : List ℕ)
    → n < 16 ^ width → 1 ≤ width → width ≤ k → AreDigitsOf p n width more (digits_onto k 16 false n more)
digits_before p each zero width n more fits some fuel = absurd (omega arith)
digits_before p each (suc k) zero n more fits some fuel = absurd (omega arith)
digits_before p each (suc k) (suc width) n more fits some fuel =
    let last : n % 16 < 16 = omega arith
    in let digit : ℕ = digit_char (n % 16)
    in let power : 16 ^ suc width ≡ 16 ^ width * 16 = simp unary_clauses refl
    in let by : (b : Bool) → nat_eq (n / 16) 0 ≡ b → AreDigitsOf p n (suc width) more (cond b (digit ∷ more) (digits_onto k 16 false (n / 16) (digit ∷ more)))
    = λ b. elim b as (λ x. nat_eq (n / 16) 0 ≡ x → AreDigitsOf p n (suc width) more (cond x (digit ∷ more) (digits_onto k 16 false (n / 16) (digit ∷ more)))) [
      | true ↦ λ e.
          let none : n / 16 ≡ 0 = eqb-true (n / 16) 0 e
          in let whole : 0 * 16 + n % 16 ≡ n = omega arith
          in record {
            pass = rw (each (n % 16) last) refl;
            value = ap (λ m. digits_value_after 16 m more) (ap (λ v. 0 * 16 + v) (digit_value-digit_char (n % 16) (omega arith)) ∙ whole);
            short = omega arith;
            some = omega arith;
          }
      | false ↦ λ e.
          let high : n / 16 ≢ 0 = eqb-false (n / 16) 0 e
          in let rest = digits_before p each k width (n / 16) (digit ∷ more) (omega (arith, power)) (wide width n fits high) (omega arith)
          in let whole : n / 16 * 16 + n % 16 ≡ n = omega arith
          in record {
            pass = rest.pass ∙ rw (each (n % 16) last) refl;
            value = rest.value ∙ ap (λ m. digits_value_after 16 m more) (ap (λ v. n / 16 * 16 + v) (digit_value-digit_char (n % 16) (omega arith)) ∙ whole);
            short = let l : length (digits_onto k 16 false (n / 16) (digit ∷ more)) ≤ width + length (digit ∷ more) = rest.short in omega arith;
            some = rest.some;
          }
    ]
    in by (nat_eq (n / 16) 0) refl

-- what each digit passes, a number passes
abbrev EachDigitPasses : (ℕ → Bool) → Type 0
EachDigitPasses p = (d : ℕ) → d < 16 → p (digit_char d) ≡ true

number_digits : (p : ℕ → Bool) → EachDigitPasses p → (n : ℕ) → n < 2 ^ 32 → AreDigitsOf p n 8 [] (number_text n)
unfolding digits
number_digits p each n low = digits_before p each 64 8 n [] low (omega arith) (omega arith)

pub number_read : (n : ℕ) → n < 2 ^ 32 → number_in (number_text n) ≡ Ok n
number_read n low =
    let found = number_digits (λ c. is_digit c 16) digit_read n low
    in let some : nat_le 1 (length (number_text n)) ≡ true = le-leb 1 (length (number_text n)) found.some
    in let short : nat_le (length (number_text n)) 8 ≡ true = le-leb (length (number_text n)) 8 (omega (arith, found.short))
    in rw (some, short, found.pass, found.value) refl

-- no digit parts fields
no_comma : EachDigitPasses (λ b. not (nat_eq b 0x2C))
no_comma d low = search (rules, nat_tests)

no_colon : EachDigitPasses (λ b. not (nat_eq b 0x3A))
no_colon d low = search (rules, nat_tests)

no_semicolon : EachDigitPasses (λ b. not (nat_eq b 0x3B))
no_semicolon d low = search (rules, nat_tests)

no_equals : EachDigitPasses (λ b. not (nat_eq b 0x3D))
no_equals d low = search (rules, nat_tests)

list_all-append : (p : ℕ → Bool) (xs ys : List ℕ) → list_all p xs ≡ true → list_all p ys ≡ true → list_all p (xs ++ ys) ≡ true
list_all-append p [] ys h k = k
list_all-append p (x ∷ xs) ys h k =
    let parts = and_parts (p x) (list_all p xs) h
    in rw (parts.0, list_all-append p xs ys parts.1 k) refl

-- what stands before and after a byte that the first part does not have
prefix_before : (c : ℕ) (xs ys : List ℕ) → list_all (λ b. not (nat_eq b c)) xs ≡ true → prefix_len (λ b. not (nat_eq b c)) (xs ++ c ∷ ys) ≡ length xs
prefix_before c [] ys h = rw (eq-eqb c c refl) refl
prefix_before c (x ∷ xs) ys h =
    let parts = and_parts (not (nat_eq x c)) (list_all (λ b. not (nat_eq b c)) xs) h
    in let rest = prefix_before c xs ys parts.1
    in rw (parts.0, rest) (omega arith)

take_before : (c : ℕ) (xs ys : List ℕ) → take (length xs) (xs ++ c ∷ ys) ≡ xs
take_before c [] ys = refl
take_before c (x ∷ xs) ys = ap (λ l. x ∷ l) (take_before c xs ys)

drop_behind : (c : ℕ) (xs ys : List ℕ) → drop (length xs + 1) (xs ++ c ∷ ys) ≡ ys
drop_behind c [] ys = refl
drop_behind c (x ∷ xs) ys =
    let next : length (x ∷ xs) + 1 ≡ suc (length xs + 1) = omega arith
    in rw next (drop_behind c xs ys)

pub parted_at : (c : ℕ) (xs ys : List ℕ) → list_all (λ b. not (nat_eq b c)) xs ≡ true → parted c (xs ++ c ∷ ys) ≡ Ok (xs, ys)
parted_at c xs ys h =
    let within : nat_lt (length xs) (length (xs ++ c ∷ ys)) ≡ true = lt-ltb (length xs) (length (xs ++ c ∷ ys)) (omega (arith, length-append xs (c ∷ ys)))
    in rw (prefix_before c xs ys h, within, take_before c xs ys, drop_behind c xs ys) refl

prefix_whole : (c : ℕ) (xs : List ℕ) → list_all (λ b. not (nat_eq b c)) xs ≡ true → prefix_len (λ b. not (nat_eq b c)) xs ≡ length xs
prefix_whole c [] h = refl
prefix_whole c (x ∷ xs) h =
    let parts = and_parts (not (nat_eq x c)) (list_all (λ b. not (nat_eq b c)) xs) h
    in let rest = prefix_whole c xs parts.1
    in rw (parts.0, rest) (omega arith)

-- a text that does not have the byte is not parted
pub not_parted : (c : ℕ) (xs : List ℕ) → list_all (λ b. not (nat_eq b c)) xs ≡ true → parted c xs ≡ Err Malformed
not_parted c xs h =
    let end : nat_lt (length xs) (length xs) ≡ false = le-ltb (length xs) (length xs) (omega arith)
    in rw (prefix_whole c xs h, end) refl

pub two_read : (first second : ℕ) → first < 2 ^ 32 → second < 2 ^ 32 → two_numbers (two_texts first second) ≡ Ok (first, second)
two_read first second low high =
    let found = number_digits (λ b. not (nat_eq b 0x2C)) no_comma first low
    in rw (parted_at 0x2C (number_text first) (number_text second) found.pass, number_read first low, number_read second high) refl

-- two numbers do not have a byte that is neither a digit nor what parts them
two_without : (c : ℕ) → EachDigitPasses (λ b. not (nat_eq b c)) → nat_eq 0x2C c ≡ false → (first second : ℕ) → first < 2 ^ 32 → second < 2 ^ 32
    → list_all (λ b. not (nat_eq b c)) (two_texts first second) ≡ true
two_without c each comma first second low high =
    let one = number_digits (λ b. not (nat_eq b c)) each first low
    in let other = number_digits (λ b. not (nat_eq b c)) each second high
    in list_all-append (λ b. not (nat_eq b c)) (number_text first) (0x2C ∷ number_text second) one.pass (rw comma other.pass)

pub two_without_colon : (first second : ℕ) → first < 2 ^ 32 → second < 2 ^ 32 → list_all (λ b. not (nat_eq b 0x3A)) (two_texts first second) ≡ true
two_without_colon first second low high = two_without 0x3A no_colon refl first second low high

pub two_without_semicolon : (first second : ℕ) → first < 2 ^ 32 → second < 2 ^ 32 → list_all (λ b. not (nat_eq b 0x3B)) (two_texts first second) ≡ true
two_without_semicolon first second low high = two_without 0x3B no_semicolon refl first second low high

pub number_without_equals : (n : ℕ) → n < 2 ^ 32 → list_all (λ b. not (nat_eq b 0x3D)) (number_text n) ≡ true
number_without_equals n low = let found = number_digits (λ b. not (nat_eq b 0x3D)) no_equals n low in found.pass

eight_digits : (a b c d e f g h : ℕ) → a < 16 → b < 16 → c < 16 → d < 16 → e < 16 → f < 16 → g < 16 → h < 16
    → number_in (digit_char a ∷ digit_char b ∷ digit_char c ∷ digit_char d ∷ digit_char e ∷ digit_char f ∷ digit_char g ∷ digit_char h ∷ []) ≡ Ok ((((((((0 * 16 + a) * 16 + b) * 16 + c) * 16 + d) * 16 + e) * 16 + f) * 16 + g) * 16 + h)
eight_digits a b c d e f g h low_a low_b low_c low_d low_e low_f low_g low_h =
    rw (
      digit_read a low_a,
      digit_read b low_b,
      digit_read c low_c,
      digit_read d low_d,
      digit_read e low_e,
      digit_read f low_f,
      digit_read g low_g,
      digit_read h low_h,
      digit_value-digit_char a (omega arith),
      digit_value-digit_char b (omega arith),
      digit_value-digit_char c (omega arith),
      digit_value-digit_char d (omega arith),
      digit_value-digit_char e (omega arith),
      digit_value-digit_char f (omega arith),
      digit_value-digit_char g (omega arith),
      digit_value-digit_char h (omega arith),
    )
    refl

abbrev found : ℕ → Parsed ℕ
found n = Ok n

pub word_read : (word : ℕ) → word < 2 ^ 32 → word_in (word_text word) ≡ Ok word
word_read word low =
    let whole : (((((((0 * 16 + word / 16777216 % 256 / 16) * 16 + word / 16777216 % 256 % 16) * 16 + word / 65536 % 256 / 16) * 16 + word / 65536 % 256 % 16) * 16 + word / 256 % 256 / 16) * 16 + word / 256 % 256 % 16) * 16 + word % 256 / 16) * 16 + word % 256 % 16 ≡ word = omega arith
    in eight_digits (word / 16777216 % 256 / 16) (word / 16777216 % 256 % 16) (word / 65536 % 256 / 16) (word / 65536 % 256 % 16)
    (word / 256 % 256 / 16) (word / 256 % 256 % 16) (word % 256 / 16) (word % 256 % 16)
    (omega arith) (omega arith) (omega arith) (omega arith) (omega arith) (omega arith) (omega arith) (omega arith)
    ∙ ap (λ (n : ℕ). found n) whole

no_minus : EachDigitPasses (λ b. not (nat_eq b 0x2D))
no_minus d low = search (rules, nat_tests)

not_none : (text : List ℕ) → list_all (λ b. not (nat_eq b 0x2D)) text ≡ true → is_text text (codes "-1") ≡ false
not_none [] h = refl
not_none (x ∷ text) h =
    let parts = and_parts (not (nat_eq x 0x2D)) (list_all (λ b. not (nat_eq b 0x2D)) text) h
    in rw (not_true (nat_eq x 0x2D) parts.0) refl

-- a number is not `-1`
pub number_is_none : (n : ℕ) → n < 2 ^ 32 → is_text (number_text n) (codes "-1") ≡ false
number_is_none n low =
    let digits_of = number_digits (λ b. not (nat_eq b 0x2D)) no_minus n low
    in not_none (number_text n) digits_of.pass
