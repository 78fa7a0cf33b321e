-- Registers that are loaded in the order of their numbers, not from R1 on.
use Rattle.std.proofs.Common.{◌≡◌, ◌≢◌, ◌<◌, ◌≤◌, ◌+◌, ◌-◌, ◌*◌, ◌%◌, ◌∙◌, ℕ, zero, suc, List, true, false, nat_lt, refl, ap, sym, get_or, set, length, arith, inl, inr, get_or-set_other, get_or-set_same, length-set, ext_get_or}
use Rattle.std.proofs.lemmas.Bool.{cases_lt, le-ltb, lt-ltb}
use Rattle.s360_model.specs.Core.{Core, core_with_word}
use Rattle.s360_model.specs.Storage.{word_at}
use Rattle.s360_store.specs.Plans.{HasRegisters}
use Rattle.s360_fixed.specs.Plans.{with_register_loaded}
use Rattle.s360_fixed.specs.Storing.{register_distance, with_registers_loaded}

-- the registers below a number have been loaded, those of them that are among so many from R1 on
unfoldable pub loaded_below : List ℕ → ℕ → ℕ → ℕ → ℕ → Core → Core
loaded_below bytes r1 at count zero m = m
loaded_below bytes r1 at count (suc k) m = with_register_loaded bytes r1 at count k (loaded_below bytes r1 at count k m)

pub loaded_below-none : (bytes : List ℕ) (r1 at count : ℕ) (m : Core) → m ≡ loaded_below bytes r1 at count 0 m
unfolding loaded_below
loaded_below-none bytes r1 at count m = refl

below-suc : (bytes : List ℕ) (r1 at count k : ℕ) (m : Core) → loaded_below bytes r1 at count (suc k) m ≡ with_register_loaded bytes r1 at count k (loaded_below bytes r1 at count k m)
unfolding loaded_below
below-suc bytes r1 at count k m = refl

pub loaded_below-more : (bytes : List ℕ) (r1 at count k : ℕ) (m n l : Core) → n ≡ loaded_below bytes r1 at count k m → l ≡ with_register_loaded bytes r1 at count k n
    → l ≡ loaded_below bytes r1 at count (k + 1) m
loaded_below-more bytes r1 at count k m n l e f =
    let next : k + 1 ≡ suc k = omega arith
    in rw (next, f, e) (sym (below-suc bytes r1 at count k m))

-- a register has its word, if it is among so many from R1 on
record IsLoaded (bytes : List ℕ) (r1 at count r old new : ℕ) : Type 0 where
  pub among : register_distance r1 r < count → new ≡ word_at bytes (at + 4 * register_distance r1 r)
  pub beside : count ≤ register_distance r1 r → new ≡ old

-- one register, by whether it is among them
with-among : (bytes : List ℕ) (r1 at count k : ℕ) (n : Core) → register_distance r1 k < count
    → with_register_loaded bytes r1 at count k n ≡ core_with_word k (word_at bytes (at + 4 * register_distance r1 k)) n
with-among bytes r1 at count k n l = let b : nat_lt (register_distance r1 k) count ≡ true = lt-ltb _ _ l in rw b refl

with-beside : (bytes : List ℕ) (r1 at count k : ℕ) (n : Core) → count ≤ register_distance r1 k → with_register_loaded bytes r1 at count k n ≡ n
with-beside bytes r1 at count k n l = let b : nat_lt (register_distance r1 k) count ≡ false = le-ltb _ _ l in rw b refl

loaded-same : (bytes : List ℕ) (r1 at count k : ℕ) (n : Core) → k < length n.registers
    → IsLoaded bytes r1 at count k (get_or n.registers k 0) (get_or (with_register_loaded bytes r1 at count k n).registers k 0)
loaded-same bytes r1 at count k n l = record {
  among = λ h. rw (with-among bytes r1 at count k n h) (get_or-set_same n.registers k _ 0 l);
  beside = λ h. rw (with-beside bytes r1 at count k n h) refl;
}

loaded-other : (bytes : List ℕ) (r1 at count k r : ℕ) (n : Core) → k ≢ r → get_or (with_register_loaded bytes r1 at count k n).registers r 0 ≡ get_or n.registers r 0
loaded-other bytes r1 at count k r n d = elim (cases_lt (register_distance r1 k) count) [
  | inl h ↦ rw (with-among bytes r1 at count k n h) (get_or-set_other n.registers k r _ 0 (λ e. d (sym e)))
  | inr h ↦ rw (with-beside bytes r1 at count k n h) refl
]

loaded-length : (bytes : List ℕ) (r1 at count k : ℕ) (n : Core) → length (with_register_loaded bytes r1 at count k n).registers ≡ length n.registers
loaded-length bytes r1 at count k n = elim (cases_lt (register_distance r1 k) count) [
  | inl h ↦ rw (with-among bytes r1 at count k n h) (length-set n.registers k _)
  | inr h ↦ rw (with-beside bytes r1 at count k n h) refl
]

-- registers below a number, and from it on
below-length : (bytes : List ℕ) (r1 at count k : ℕ) (m : Core) → length (loaded_below bytes r1 at count k m).registers ≡ length m.registers
below-length bytes r1 at count zero m = rw (← loaded_below-none bytes r1 at count m) refl
below-length bytes r1 at count (suc k) m =
    rw (below-suc bytes r1 at count k m) (loaded-length bytes r1 at count k (loaded_below bytes r1 at count k m) ∙ below-length bytes r1 at count k m)

below-later : (bytes : List ℕ) (r1 at count k r : ℕ) (m : Core) → k ≤ r → get_or (loaded_below bytes r1 at count k m).registers r 0 ≡ get_or m.registers r 0
below-later bytes r1 at count zero r m l = rw (← loaded_below-none bytes r1 at count m) refl
below-later bytes r1 at count (suc k) r m l =
    rw (below-suc bytes r1 at count k m) (loaded-other bytes r1 at count k r (loaded_below bytes r1 at count k m) (omega (arith, l)) ∙ below-later bytes r1 at count k r m (omega (arith, l)))

below-done : (bytes : List ℕ) (r1 at count k r : ℕ) (m : Core) → r < k → k ≤ length m.registers
    → IsLoaded bytes r1 at count r (get_or m.registers r 0) (get_or (loaded_below bytes r1 at count k m).registers r 0)
below-done bytes r1 at count zero r m l h = absurd (omega (arith, l))
below-done bytes r1 at count (suc k) r m l h =
    let before : Core = loaded_below bytes r1 at count k m
    in elim (cases_lt r k) [
      | inl less ↦ rw (below-suc bytes r1 at count k m, loaded-other bytes r1 at count k r before (omega (arith, less))) (below-done bytes r1 at count k r m less (omega (arith, h)))
      | inr more ↦
          let same : r ≡ k = omega (arith, l, more)
          in let inside : k < length before.registers = rw (below-length bytes r1 at count k m) (omega (arith, h))
          in let old : get_or before.registers k 0 ≡ get_or m.registers k 0 = below-later bytes r1 at count k k m (omega arith)
          in rw (below-suc bytes r1 at count k m, same) (rw old at (loaded-same bytes r1 at count k before inside))
    ]

-- registers loaded from R1 on
from-length : (bytes : List ℕ) (r1 at count : ℕ) (m : Core) → length (with_registers_loaded bytes r1 at count m).registers ≡ length m.registers
from-length bytes r1 at zero m = refl
from-length bytes r1 at (suc n) m = length-set (with_registers_loaded bytes r1 at n m).registers ((r1 + n) % 16) _ ∙ from-length bytes r1 at n m

from-done : (bytes : List ℕ) (r1 at count r : ℕ) (m : Core) → r1 < 16 → r < 16 → count ≤ 16 → length m.registers ≡ 16
    → IsLoaded bytes r1 at count r (get_or m.registers r 0) (get_or (with_registers_loaded bytes r1 at count m).registers r 0)
from-done bytes r1 at zero r m f l c s = record { among = λ h. absurd (omega (arith, h)); beside = λ h. refl }
from-done bytes r1 at (suc n) r m f l c s =
    let before : Core = with_registers_loaded bytes r1 at n m
    in let rest = from-done bytes r1 at n r m f l (omega (arith, c)) s
    in let inside : (r1 + n) % 16 < length before.registers = rw (from-length bytes r1 at n m, s) (omega arith)
    in record {
      among = λ h. elim (cases_lt (register_distance r1 r) n) [
        | inl less ↦
            let other : r ≢ (r1 + n) % 16 = λ e. omega (arith, e, less, f, l, c)
            in get_or-set_other before.registers ((r1 + n) % 16) r _ 0 other ∙ rest.among less
        | inr more ↦
            let last : register_distance r1 r ≡ n = omega (arith, h, more)
            in let same : (r1 + n) % 16 ≡ r = omega (arith, last, f, l)
            in let put : get_or (set before.registers ((r1 + n) % 16) (word_at bytes (at + 4 * n))) ((r1 + n) % 16) 0 ≡ word_at bytes (at + 4 * n) = get_or-set_same before.registers ((r1 + n) % 16) _ 0 inside
            in ap (λ i. get_or (set before.registers ((r1 + n) % 16) (word_at bytes (at + 4 * n))) i 0) (sym same) ∙ put ∙ ap (λ i. word_at bytes (at + 4 * i)) (sym last)
      ];
      beside = λ h.
          let other : r ≢ (r1 + n) % 16 = λ e. omega (arith, e, h, f, l, c)
          in get_or-set_other before.registers ((r1 + n) % 16) r _ 0 other ∙ rest.beside (omega (arith, h));
    }

-- both orders load the same words
is-loaded : (bytes : List ℕ) (r1 at count r old a b : ℕ) → IsLoaded bytes r1 at count r old a → IsLoaded bytes r1 at count r old b → a ≡ b
is-loaded bytes r1 at count r old a b x y = elim (cases_lt (register_distance r1 r) count) [
  | inl h ↦ x.among h ∙ sym (y.among h)
  | inr h ↦ x.beside h ∙ sym (y.beside h)
]

same-registers : (bytes : List ℕ) (r1 at count : ℕ) (m : Core) → r1 < 16 → count ≤ 16 → HasRegisters m
    → (loaded_below bytes r1 at count 16 m).registers ≡ (with_registers_loaded bytes r1 at count m).registers
same-registers bytes r1 at count m f c s =
    let many : length (loaded_below bytes r1 at count 16 m).registers ≡ 16 = below-length bytes r1 at count 16 m ∙ s
    in ext_get_or 0 (loaded_below bytes r1 at count 16 m).registers (with_registers_loaded bytes r1 at count m).registers (below-length bytes r1 at count 16 m ∙ sym (from-length bytes r1 at count m))
    (λ r l. let inside : r < 16 = omega (arith, l, many) in is-loaded bytes r1 at count r (get_or m.registers r 0) _ _
    (below-done bytes r1 at count 16 r m inside (rw s (omega arith))) (from-done bytes r1 at count r m f inside c s))

-- neither alters more than registers
below-rest : (bytes : List ℕ) (r1 at count k : ℕ) (m : Core) → loaded_below bytes r1 at count k m ≡ record m { registers = (loaded_below bytes r1 at count k m).registers }
below-rest bytes r1 at count zero m = rw (← loaded_below-none bytes r1 at count m) refl
below-rest bytes r1 at count (suc k) m =
    let before : Core = loaded_below bytes r1 at count k m
    in rw (below-suc bytes r1 at count k m) (elim (cases_lt (register_distance r1 k) count) [
      | inl h ↦ rw (with-among bytes r1 at count k before h) (ap (λ (n : Core). core_with_word k (word_at bytes (at + 4 * register_distance r1 k)) n) (below-rest bytes r1 at count k m))
      | inr h ↦ rw (with-beside bytes r1 at count k before h) (below-rest bytes r1 at count k m)
    ])

from-rest : (bytes : List ℕ) (r1 at count : ℕ) (m : Core) → with_registers_loaded bytes r1 at count m ≡ record m { registers = (with_registers_loaded bytes r1 at count m).registers }
from-rest bytes r1 at zero m = refl
from-rest bytes r1 at (suc n) m = ap (λ (k : Core). core_with_word ((r1 + n) % 16) (word_at bytes (at + 4 * n)) k) (from-rest bytes r1 at n m)

-- registers that are none of them
below-beside : (bytes : List ℕ) (r1 at count k n : ℕ) (m : Core) → ((r : ℕ) → k ≤ r → r < k + n → count ≤ register_distance r1 r) → loaded_below bytes r1 at count (k + n) m ≡ loaded_below bytes r1 at count k m
below-beside bytes r1 at count k zero m h = let same : k + zero ≡ k = omega arith in rw same refl
below-beside bytes r1 at count k (suc n) m h =
    let next : k + suc n ≡ suc (k + n) = omega arith
    in rw (next, below-suc bytes r1 at count (k + n) m) (with-beside bytes r1 at count (k + n) (loaded_below bytes r1 at count (k + n) m) (h (k + n) (omega arith) (omega arith))
    ∙ below-beside bytes r1 at count k n m (λ r l b. h r l (omega (arith, b))))

pub loaded_below-first : (bytes : List ℕ) (r1 at count first : ℕ) (m : Core) → ((r : ℕ) → r < first → count ≤ register_distance r1 r) → m ≡ loaded_below bytes r1 at count first m
loaded_below-first bytes r1 at count first m h =
    let whole : 0 + first ≡ first = omega arith
    in loaded_below-none bytes r1 at count m ∙ sym (rw whole at (below-beside bytes r1 at count 0 first m (λ r l b. h r (omega (arith, b)))))

pub loaded_below-past : (bytes : List ℕ) (r1 at count past : ℕ) (m n : Core) → past ≤ 16 → ((r : ℕ) → past ≤ r → r < 16 → count ≤ register_distance r1 r) → n ≡ loaded_below bytes r1 at count past m
    → n ≡ loaded_below bytes r1 at count 16 m
loaded_below-past bytes r1 at count past m n l h e =
    let whole : past + (16 - past) ≡ 16 = omega (arith, l)
    in e ∙ sym (rw whole at (below-beside bytes r1 at count past (16 - past) m (λ r k b. h r k (omega (arith, b, l)))))

pub loaded_below-all : (bytes : List ℕ) (r1 at count : ℕ) (m n : Core) → r1 < 16 → count ≤ 16 → HasRegisters m → n ≡ loaded_below bytes r1 at count 16 m
    → n ≡ with_registers_loaded bytes r1 at count m
loaded_below-all bytes r1 at count m n f c s e =
    e ∙ below-rest bytes r1 at count 16 m ∙ ap (λ registers. record m { registers = registers }) (same-registers bytes r1 at count m f c s) ∙ sym (from-rest bytes r1 at count m)
