-- Looking up in two columns beside each other, and the other way round.
use Rattle.std.proofs.Common.{◌≡◌, ◌<◌, ◌+◌, ℕ, List, [], ◌∷◌, Bool, true, false, nat_eq, if◌then◌else◌, Some, length, get_or, drop, refl, ap, arith, zip}
use Rattle.std.proofs.lemmas.Bool.Decides.{nat_tests}
use Rattle.std.proofs.lemmas.Option.{none-some, same_Some}
use Rattle.std.proofs.lemmas.List.{drop_more}
use Rattle.s360_model.specs.Tables.{entry_in}
use Rattle.s360_print.specs.Signs.{sign_rows, ebcdic_in, ascii_in}
use Rattle.s360_print.specs.Laws.{SignsInvert}

-- a search has come to the byte
pub entry-found : (ks vs : List ℕ) (i byte : ℕ) → i < length ks → i < length vs → get_or ks i 0 ≡ byte → entry_in (zip (drop i ks) (drop i vs)) byte ≡ Some (get_or vs i 0)
entry-found ks vs i byte h k e =
    let t : nat_eq byte (get_or ks i 0) ≡ true = grind (arith, nat_tests)
    in rw (drop_more ks i 0 h, drop_more vs i 0 k, t) refl

-- or it goes on
pub entry-next : (ks vs : List ℕ) (i byte : ℕ) → i < length ks → i < length vs → (get_or ks i 0 ≡ byte → ⊥) → entry_in (zip (drop i ks) (drop i vs)) byte ≡ entry_in (zip (drop (i + 1) ks) (drop (i + 1) vs)) byte
entry-next ks vs i byte h k e =
    let t : nat_eq byte (get_or ks i 0) ≡ false = grind (arith, nat_tests)
    in rw (drop_more ks i 0 h, drop_more vs i 0 k, t) refl

-- whether a byte stands in a column, and whether each one stands there once
abbrev stands_in : ℕ → List ℕ → Bool
stands_in byte [] = false
stands_in byte (x ∷ xs) = if nat_eq byte x then true else stands_in byte xs

abbrev has_each_once : List ℕ → Bool
has_each_once [] = true
has_each_once (x ∷ xs) = if stands_in x xs then false else has_each_once xs

-- what is found stands in the second column
stands-head : (sign x : ℕ) (xs : List ℕ) → x ≡ sign → stands_in sign (x ∷ xs) ≡ true
stands-head sign x xs e = let t : nat_eq sign x ≡ true = grind (arith, nat_tests) in rw t refl

stands-tail : (sign x : ℕ) (xs : List ℕ) (b : Bool) → nat_eq sign x ≡ b → stands_in sign xs ≡ true → stands_in sign (x ∷ xs) ≡ true
stands-tail sign x xs true b e = rw b refl
stands-tail sign x xs false b e = rw b e

stands-found : (ks vs : List ℕ) (byte sign : ℕ) → entry_in (zip ks vs) byte ≡ Some sign → stands_in sign vs ≡ true
stands-found [] vs byte sign h = absurd (none-some sign h)
stands-found (k ∷ ks) [] byte sign h = absurd (none-some sign h)
stands-found (k ∷ ks) (v ∷ vs) byte sign h = found_by k v ks vs byte sign (λ e. stands-found ks vs byte sign e) (nat_eq byte k) refl h
  where
    found_by : (k v : ℕ) (ks vs : List ℕ) (byte sign : ℕ) → (entry_in (zip ks vs) byte ≡ Some sign → stands_in sign vs ≡ true) → (b : Bool) → nat_eq byte k ≡ b → entry_in ((k, v) ∷ zip ks vs) byte ≡ Some sign → stands_in sign (v ∷ vs) ≡ true
    found_by k v ks vs byte sign rest true b h = stands-head sign v vs (same_Some v sign (rw b at h))
    found_by k v ks vs byte sign rest false b h = stands-tail sign v vs (nat_eq sign v) refl (rest (rw b at h))

-- a byte stands where another one does not
not-same : (sign x : ℕ) (xs : List ℕ) → stands_in sign xs ≡ true → stands_in x xs ≡ false → sign ≡ x → ⊥
not-same sign x xs h k e = let t : stands_in x xs ≡ true = rw (← e) h in absurd (cc)

-- by whether the first of a column stands in the others
once_by : (x : ℕ) (xs : List ℕ) (b : Bool) → stands_in x xs ≡ b → has_each_once (x ∷ xs) ≡ true → (stands_in x xs ≡ false) × (has_each_once xs ≡ true)
once_by x xs true b h = let e : has_each_once (x ∷ xs) ≡ false = rw b refl in absurd (cc)
once_by x xs false b h = (b, rw b at h)

-- where no byte of the second column stands there twice, looking up the other way round gives the byte back
pub entry-back : (ks vs : List ℕ) (byte sign : ℕ) → has_each_once vs ≡ true → entry_in (zip ks vs) byte ≡ Some sign → entry_in (zip vs ks) sign ≡ Some byte
entry-back [] vs byte sign o h = absurd (none-some sign h)
entry-back (k ∷ ks) [] byte sign o h = absurd (none-some sign h)
entry-back (k ∷ ks) (v ∷ vs) byte sign o h =
    let once = once_by v vs (stands_in v vs) refl o
    in back_by k v ks vs byte sign (λ e. entry-back ks vs byte sign once.1 e) once.0 (nat_eq byte k) refl h
  where
    back_by : (k v : ℕ) (ks vs : List ℕ) (byte sign : ℕ) → (entry_in (zip ks vs) byte ≡ Some sign → entry_in (zip vs ks) sign ≡ Some byte) → stands_in v vs ≡ false → (b : Bool) → nat_eq byte k ≡ b → entry_in ((k, v) ∷ zip ks vs) byte ≡ Some sign → entry_in ((v, k) ∷ zip vs ks) sign ≡ Some byte
    back_by k v ks vs byte sign rest o true b h =
        let e : v ≡ sign = same_Some v sign (rw b at h)
        in let t : nat_eq sign v ≡ true = grind (arith, nat_tests)
        in let same : k ≡ byte = grind (arith, nat_tests)
        in rw t (ap (λ (i : ℕ). Some i) same)
    back_by k v ks vs byte sign rest o false b h =
        let found : entry_in (zip ks vs) byte ≡ Some sign = rw b at h
        in let other : sign ≡ v → ⊥ = not-same sign v vs (stands-found ks vs byte sign found) o
        in let t : nat_eq sign v ≡ false = grind (arith, nat_tests)
        in rw t (rest found)

-- no byte and no sign stands twice in the table
pub signs-invert : SignsInvert
signs-invert = record {
  ebcdic = λ byte sign h. entry-back (ebcdic_in sign_rows) (ascii_in sign_rows) byte sign refl h;
  ascii = λ byte sign h. entry-back (ascii_in sign_rows) (ebcdic_in sign_rows) sign byte refl h;
}
